-- docs/FORMAT.md, "Finding in H1" and cases more, as one list: one or more for each sentence of Wish 1, and the reading of Wish 7 (docs/ARCHITECTURE.md). Their theorem is
-- proofs/FindExamplesHold. H1 and its parts: crate report, specs/Examples.
use Rattle.std.specs.Prelude.{ℕ, ◌-◌, ◌^◌, List, [], ◌∷◌, Some, None, Ok, Err}
use Rattle.report.specs.Tables.{Tables}
use Rattle.report.specs.Expressions.{tables_of}
use Rattle.report.specs.Verdicts.{refusal}
use Rattle.report.specs.Examples.{moments, harbour, h1_expressions, h1_entries, h1_queries, h1, h10}
use Rattle.report.specs.declared.Reading.{Reading}
use Rattle.finding.specs.Finding.{FindAnswer}
use Rattle.worked_examples.specs.Harbours.{modelled, plain}

-- tables, the reading, the wanted set, and the answer
pub record FindExample : Type 0 where
  pub of : Tables
  pub reading : Reading
  pub wanted : ℕ
  pub gives : FindAnswer

abbrev example : Tables → ℕ → FindAnswer → FindExample
example T wanted answer = record { of = T; reading = Reading.Strict; wanted = wanted; gives = answer }

abbrev filled : Tables → ℕ → FindAnswer → FindExample
filled T wanted answer = record { of = T; reading = Reading.Filled; wanted = wanted; gives = answer }

-- one relation: attribute 0 where feature 0 is on, attribute 1 where it is off
abbrev apart : Tables
apart = tables_of 1 2 0 (1 ∷ 0 ∷ 0 ∷ 2 ∷ 0 ∷ 0 ∷ 3 ∷ 1 ∷ 0 ∷ []) (0 ∷ 1 ∷ 1 ∷ 2 ∷ []) (0 ∷ 2 ∷ []) [] (1 ∷ 0 ∷ 0 ∷ 0 ∷ []) (moments 2)

abbrev pub find_examples : List FindExample
find_examples =
    -- "the lowest permitted configuration whose set holds them all": vessel and ramp of H1. At 0 and 1 the set has vessel alone, at 2 and 3 both
    example (h1 2) 5 (Ok (Some 2))
    -- vessel alone, which each configuration has
    ∷ example (h1 2) 1 (Ok (Some 0))
    -- nothing is wanted
    ∷ example (h1 2) 0 (Ok (Some 0))
    -- "permitted": the model is swaps, which permits 1 and 3
    ∷ example (modelled 1) 5 (Ok (Some 3))
    ∷ example (modelled 1) 0 (Ok (Some 1))
    -- "or none when no permitted configuration has them": berth is projected away; attributes that are each somewhere, and nowhere together
    ∷ example (h1 2) 2 (Ok None)
    ∷ example apart 1 (Ok (Some 1))
    ∷ example apart 2 (Ok (Some 0))
    ∷ example apart 3 (Ok None)
    -- "22 the set has a bit at or above m": the lowest such bit, beside bits below m, and the highest
    ∷ example (h1 2) 8 (Err (refusal 22 0 0 0))
    ∷ example (h1 2) 13 (Err (refusal 22 0 0 0))
    ∷ example (h1 2) (2 ^ 63) (Err (refusal 22 0 0 0))
    -- with 64 attributes there is none, and with no attribute each bit is one
    ∷ example (plain 64 (63 ∷ 0 ∷ []) 1) (2 ^ 63) (Ok (Some 0))
    ∷ example (plain 64 (63 ∷ 0 ∷ []) 1) (2 ^ 64 - 1) (Ok None)
    ∷ example (plain 0 [] 0) 0 (Ok (Some 0))
    ∷ example (plain 0 [] 0) 1 (Err (refusal 22 0 0 0))
    -- "checked after 19": H2, which typing refuses. "Runs first what configuring runs before 20": H8, H9 with 11 features
    ∷ example (harbour 2 h1_expressions (h1_entries 1) h1_queries) 8 (Err (refusal 17 1 2 1))
    ∷ example (harbour 2 (0 ∷ 0 ∷ 0 ∷ 2 ∷ 0 ∷ 0 ∷ 2 ∷ 1 ∷ 0 ∷ []) (h1_entries 2) h1_queries) 8 (Err (refusal 12 0 0 0))
    ∷ example (h1 11) 8 (Err (refusal 1 0 0 0))
    -- H9 with 10 features
    ∷ example (h1 10) 5 (Ok (Some 2))
    ∷ example (h1 10) 2 (Ok None)
    -- told the reading (Wish 7): H10 has vessel and ramp at 2 and 3, and nothing elsewhere; strictly it is refused
    ∷ example h10 1 (Err (refusal 17 3 0 0))
    ∷ filled h10 5 (Ok (Some 2))
    ∷ filled h10 2 (Ok None)
    ∷ filled h10 8 (Err (refusal 22 0 0 0))
    ∷ []
