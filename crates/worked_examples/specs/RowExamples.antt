-- Accepted reports with all words of their column rows, as one list: W1 of docs/FORMAT.md, "Worked examples", and cases of document 02's second,
-- fourth, fifth and seventh wish. Their theorem is proofs/RowExamplesHold. H1 to H10, what is refused, configured or printed, and the tables that cases are made of: crate
-- report, specs/Examples.
use Rattle.std.specs.Prelude.{List, [], ◌∷◌, ◌++◌, replicate}
use Rattle.report.specs.Tables.{Tables}
use Rattle.report.specs.Expressions.{tables_of}
use Rattle.report.specs.Examples.{Outcome, Example, ◌gives◌, checked, checked_filled, moments, harbour, h1, h1_expressions, h1_entries, h1_queries, guarded}
use Rattle.report.specs.Examples.{swaps_alone, swaps_where, ramp_listed}
use Rattle.report.specs.Examples.{ramps, ramp_twice, ramp_projected, quay}
use Rattle.report.specs.Examples.{arrivals, kinds012, arrival_by_count, arrival_by, passengers_by, always_words}

-- the berth at all four configurations, the ramp where one of the features is on
abbrev ramp_rows : Outcome
ramp_rows = Outcome.rows (15 ∷ replicate 15 0 ++ 14 ∷ replicate 1007 0)

-- two features, all configurations permitted. Expressions true; 1, exactly one of the two; not 1; 1 and 1. The relation lists attributes 0, 1 and 2
-- under the last three; the report is the relation
abbrev quay_shared : Tables
quay_shared =
    tables_of 2 3 0 (1 ∷ 0 ∷ 0 ∷ 6 ∷ 0 ∷ 2 ∷ 3 ∷ 1 ∷ 0 ∷ 4 ∷ 1 ∷ 1 ∷ []) (0 ∷ 1 ∷ 1 ∷ 2 ∷ 2 ∷ 3 ∷ []) (0 ∷ 3 ∷ []) [] (1 ∷ 0 ∷ 0 ∷ 0 ∷ [])
    (moments 3)

-- all three attributes at both configurations
abbrev arrival_rows : Outcome
arrival_rows = Outcome.rows (3 ∷ replicate 15 0 ++ 3 ∷ replicate 15 0 ++ 3 ∷ replicate 991 0)

abbrev pub row_examples : List Example
row_examples =
    -- W1: a relation guarded by its own feature, under a choice on it
    (checked (guarded (0 ∷ 0 ∷ []) 1) gives Outcome.rows (2 ∷ replicate 1023 0))
    -- The second wish. An attribute may occur more than once in a list, and is there when any of its entries holds; 6, and in a project form 8, do not
    -- cover repeats
    ∷ (checked ramp_twice gives ramp_rows)
    ∷ (checked (ramp_projected 0) gives ramp_rows)
    -- acceptance is judged on the joined lists: a union with a relation that lists the ramp where one of the features is on
    ∷ (checked
    (ramps (1 ∷ 1 ∷ 0 ∷ 0 ∷ 1 ∷ 2 ∷ 0 ∷ 0 ∷ 1 ∷ 3 ∷ []) (0 ∷ 3 ∷ 0 ∷ 2 ∷ []) (1 ∷ 0 ∷ 0 ∷ 0 ∷ 1 ∷ 1 ∷ 0 ∷ 0 ∷ 6 ∷ 0 ∷ 1 ∷ 0 ∷ []))
    gives ramp_rows)
    -- The fourth wish. A quay is tidal, locked or floating, never two: at 1, 2 and 4, and at no other of the eight configurations
    ∷ (checked (quay 3 0 3) gives Outcome.rows (22 ∷ replicate 1023 0))
    -- a is the first feature: of features 1 and 2 exactly one is on at 2, 3, 4 and 5, whatever feature 0 is
    ∷ (checked (quay 3 1 2) gives Outcome.rows (60 ∷ replicate 1023 0))
    -- b is how many: of features 0 and 1 exactly one is on at 1, 2, 5 and 6, whatever feature 2 is; one, which is the feature itself, on at 2 and 3;
    -- ten, of which one is on at the powers of 2; features 5 and 6, whose configurations lie in two words
    ∷ (checked (quay 3 0 2) gives Outcome.rows (102 ∷ replicate 1023 0))
    ∷ (checked (quay 2 1 1) gives Outcome.rows (12 ∷ replicate 1023 0))
    ∷ (checked (quay 10 0 10)
    gives Outcome.rows (0x1_0001_0116 ∷ 1 ∷ 1 ∷ 0 ∷ 1 ∷ replicate 3 0 ++ 1 ∷ replicate 1015 0))
    ∷ (checked (quay 7 5 2) gives Outcome.rows (0xffff_ffff_0000_0000 ∷ 0xffff_ffff ∷ replicate 1022 0))
    -- it holds when exactly one of them is on, under a negation and as both operands of one form as elsewhere
    ∷ (checked quay_shared gives Outcome.rows (6 ∷ replicate 15 0 ++ 9 ∷ replicate 15 0 ++ 6 ∷ replicate 991 0))
    -- The fifth wish. Two counts are compared
    ∷ (checked (arrivals arrival_by_count 0 (1 ∷ 1 ∷ 2 ∷ [])) gives arrival_rows)
    -- a constant's kind stands in word c, which 7 no longer wants 0
    ∷ (checked (arrivals (arrival_by 0) 0 kinds012) gives arrival_rows)
    ∷ (checked (arrivals (passengers_by 1) 0 kinds012) gives arrival_rows)
    -- where nothing reaches the two kinds: a choice always takes the other comparison; the select names another
    ∷ (checked (arrivals (arrival_by_count ++ always_words ++ 7 ∷ 0 ∷ 0 ∷ 1 ∷ 0 ∷ []) 2 kinds012) gives arrival_rows)
    ∷ (checked (arrivals (arrival_by_count ++ always_words) 1 kinds012) gives arrival_rows)
    -- a report with no comparisons is judged as before
    ∷ (checked (tables_of 2 3 0 h1_expressions (h1_entries 2) (0 ∷ 3 ∷ []) [] h1_queries kinds012)
    gives Outcome.rows (15 ∷ replicate 31 0 ++ 12 ∷ replicate 991 0))
    -- The seventh wish. An absent relation counts as empty: the berth where swaps are on. One that is reached nowhere
    ∷ (checked_filled (swaps_alone (1 ∷ 0 ∷ 0 ∷ 0 ∷ [])) gives Outcome.rows (10 ∷ replicate 1023 0))
    ∷ (checked_filled (swaps_where 5) gives Outcome.rows (replicate 1024 0))
    -- a projected attribute is dropped where its operand lacks it; so is one that is listed twice, and found for one reason only
    ∷ (checked_filled (ramp_listed 1 (1 ∷ 0 ∷ []) 1) gives Outcome.rows (replicate 16 0 ++ 10 ∷ replicate 1007 0))
    ∷ (checked_filled (ramp_listed 1 (1 ∷ 1 ∷ 1 ∷ 3 ∷ []) 2) gives Outcome.rows (replicate 16 0 ++ 10 ∷ replicate 1007 0))
    -- H2, which is refused strictly; H1, with equal rows
    ∷ (checked_filled (harbour 2 h1_expressions (h1_entries 1) h1_queries) gives Outcome.rows (15 ∷ replicate 31 0 ++ 8 ∷ replicate 991 0))
    ∷ (checked_filled (h1 2) gives Outcome.rows (15 ∷ replicate 31 0 ++ 12 ∷ replicate 991 0))
    ∷ []
