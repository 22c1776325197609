-- Laws of a search through the permitted configurations of a scope.
use Rattle.std.specs.Prelude.{Some, None, Option}
use Prim.Native.Nat.{ℕ, ◌-◌, ◌<◌, ◌≤◌}
use mathlib.Core.Path.{◌≡◌, sym, ap, ◌∙◌}
use mathlib.Core.Bool.{false}
use mathlib.Core.List.{List}
use native.Mathlib.Omega.{arith}
use Rattle.sets.specs.Search.{seek}
use Rattle.sets.specs.Rows.{row_lowest_from}
use Rattle.sets.proofs.SearchLaws.{Least, seek_nothing, seek_least}
use Rattle.sets.proofs.RowLaws.{from_row_of}
use Rattle.report.specs.Tables.{Tables}
use Rattle.report.specs.Expressions.{permitted}
use Rattle.expression_rows.specs.TypingReads.{ScopeOf}
use Rattle.expression_rows.specs.declared.Scope.{Scope}

module _ {T : Tables} {scope : Scope} (S : ScopeOf T scope) (from : ℕ) {next : Option ℕ}
    (found : next ≡ row_lowest_from 16 scope.permitted.words from) where
  seeks : next ≡ seek (permitted T) (1024 - from) from
  seeks = found ∙ ap (λ (r : List ℕ). row_lowest_from 16 r from) S.permitting ∙ from_row_of 16 (permitted T) from

  -- none is left
  pub none_permitted : next ≡ None → (d : ℕ) → from ≤ d → d < 1024 → permitted T d ≡ false
  none_permitted e d l h = seek_nothing (permitted T) (1024 - from) from (sym seeks ∙ e) d l (omega arith)

  -- c is the next
  pub next_permitted : {c : ℕ} → next ≡ Some c → Least (permitted T) from (1024 - from) c
  next_permitted {c} e = seek_least (permitted T) (1024 - from) from c (sym seeks ∙ e)
