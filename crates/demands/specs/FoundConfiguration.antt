-- What is found of the configuration that `find` answers, said of sets that each configuration has.
use Rattle.std.specs.Prelude.{ℕ, ◌<◌, ◌≡◌, true}
use Rattle.sets.specs.Bits.{bit}
use Rattle.report.specs.Tables.{Tables}
use Rattle.report.specs.Expressions.{permitted}
use Rattle.report.specs.PlainAlgebra.{columns}
use Rattle.report.specs.ConfiguredReport.{configured_report, configured_schema}
use Rattle.report.specs.declared.Reading.{Reading}

-- the columns of the report configured in a reading at c
abbrev pub columns_at : Tables → Reading → ℕ → ℕ
columns_at T R c = columns (configured_schema T c) (configured_report T c R)

-- the set of c holds every wanted attribute
abbrev pub HoldsAll : (ℕ → ℕ) → ℕ → ℕ → Type 0
HoldsAll set wanted c = (a : ℕ) → bit wanted a ≡ true → bit (set c) a ≡ true

module _ (T : Tables) (set : ℕ → ℕ) (wanted : ℕ) where
  -- c is permitted, its set holds every wanted attribute, and that of no lower permitted configuration does
  pub record LowestWith (c : ℕ) : Type 0 where
    pub permits : permitted T c ≡ true
    pub holds : HoldsAll set wanted c
    pub lower : (d : ℕ) → d < c → permitted T d ≡ true → HoldsAll set wanted d → ⊥

  -- that of no permitted configuration does
  abbrev pub NoneWith : Type 0
  NoneWith = (d : ℕ) → permitted T d ≡ true → HoldsAll set wanted d → ⊥
