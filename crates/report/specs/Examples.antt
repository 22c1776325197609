-- docs/FORMAT.md, "Worked examples": H1 to H10, W3 and W5, and of the cases of document 02's second, fourth, fifth and seventh wish those that are refused,
-- configured or printed, as one list. Their theorem is proofs/ExamplesHold. The other cases, accepted ones with their column rows, stand in crate
-- worked_examples, specs/RowExamples: to compute 1,024 words takes long, and this crate is proved anew for each of its must-fail edits.
use Rattle.std.specs.Prelude.{ℕ, ◌-◌, ◌^◌, ◌≡◌, List, [], ◌∷◌, ◌++◌, map, replicate, Ok, Err}
use Rattle.sets.specs.Lists.{concat}
use Rattle.report.specs.Tables.{Tables, entry_count, relation_count, comparison_count, query_count}
use Rattle.report.specs.Expressions.{tables_of}
use Rattle.report.specs.ColumnRows.{column_rows}
use Rattle.report.specs.Configuring.{configured}
use Rattle.report.specs.Calls.{answer, checking, configuring}
use Rattle.report.specs.Text.{bytes}
use Rattle.report.specs.Print.{print}
use Rattle.report.specs.Verdicts.{Verdict}
use Rattle.report.specs.declared.Reading.{Reading}

-- checking tables in a reading with so many words of rows lent; configuring them in a reading at a configuration, with tables 1 to 4 of so many words lent
-- for writing; or the program on a text
pub data Case : Type 0 where
  checks : Reading → Tables → ℕ → Case
  configures : Reading → Tables → ℕ → ℕ → ℕ → ℕ → ℕ → Case
  program : List ℕ → Case

-- what comes of it: a refusal; the column rows; the written tables with the counts that are returned; a print
pub data Outcome : Type 0 where
  refused : ℕ → ℕ → ℕ → ℕ → Outcome
  rows : List ℕ → Outcome
  counts : ℕ → ℕ → ℕ → ℕ → Tables → Outcome
  printed : List ℕ → Outcome

abbrev pub outcome_or : Verdict → Outcome → Outcome
outcome_or (Ok tt) o = o
outcome_or (Err r) o = Outcome.refused r.number r.place r.item r.configuration

abbrev pub written_outcome : Tables → Outcome
written_outcome T = Outcome.counts (entry_count T) (relation_count T) (comparison_count T) (query_count T) T

-- where an accepting check writes the rows that `rule` gives: the definition's are column_rows
abbrev pub outcome_by : (Tables → List ℕ) → Case → Outcome
outcome_by rule (Case.checks R T room) = let r = rule T in outcome_or (answer T R (checking room)) (Outcome.rows r)
outcome_by rule (Case.configures R T c r1 r2 r3 r4) = outcome_or (answer T R (configuring c r1 r2 r3 r4)) (written_outcome (configured T c R))
outcome_by rule (Case.program text) = Outcome.printed (print text)

abbrev pub outcome : Case → Outcome
outcome = outcome_by column_rows

pub record Example : Type 0 where
  pub of : Case
  pub gives : Outcome

infix 5 ◌gives◌
abbrev pub ◌gives◌ : Case → Outcome → Example
c gives o = record { of = c; gives = o }

-- each of some examples gives what it says
abbrev pub Hold : List Example → Type 0
Hold xs = map (λ (e : Example). outcome e.of) xs ≡ map (λ (e : Example). e.gives) xs

-- a kind table of m words, all of them 0
abbrev pub moments : ℕ → List ℕ
moments m = replicate m 0

-- tables with H1's attributes and relation: the expressions, entries and queries
abbrev pub harbour : ℕ → List ℕ → List ℕ → List ℕ → Tables
harbour n expressions entries queries = tables_of n 3 0 expressions entries (0 ∷ 3 ∷ []) [] queries (moments 3)

abbrev pub h1_expressions : List ℕ
h1_expressions = 1 ∷ 0 ∷ 0 ∷ 2 ∷ 0 ∷ 0 ∷ 2 ∷ 1 ∷ 0 ∷ []

-- the entries of the relation, and the two of the project form, of which the last has expression e
abbrev pub schema_entries : List ℕ
schema_entries = 0 ∷ 0 ∷ 1 ∷ 0 ∷ 2 ∷ 2 ∷ []

abbrev pub h1_entries : ℕ → List ℕ
h1_entries e = schema_entries ++ (0 ∷ 0 ∷ 2 ∷ e ∷ [])

abbrev pub h1_queries : List ℕ
h1_queries = 1 ∷ 0 ∷ 0 ∷ 0 ∷ 3 ∷ 2 ∷ 0 ∷ 0 ∷ []

-- H1 with n features
abbrev pub h1 : ℕ → Tables
h1 n = harbour n h1_expressions (h1_entries 2) h1_queries

-- H10: H1's project form over a choice on ramps between the relation and empty
abbrev pub h10 : Tables
h10 = harbour 2 h1_expressions (h1_entries 2) (1 ∷ 0 ∷ 0 ∷ 0 ∷ 0 ∷ 0 ∷ 0 ∷ 0 ∷ 4 ∷ 2 ∷ 0 ∷ 1 ∷ 3 ∷ 2 ∷ 2 ∷ 0 ∷ [])

-- expressions true, feature 0 and its negation; one relation, present where feature 0 is on; a choice on feature 0 between it and empty
abbrev pub guarded : List ℕ → ℕ → Tables
guarded entries count =
    tables_of 1 2 0 (1 ∷ 0 ∷ 0 ∷ 2 ∷ 0 ∷ 0 ∷ 3 ∷ 1 ∷ 0 ∷ []) entries (1 ∷ count ∷ []) [] (1 ∷ 0 ∷ 0 ∷ 0 ∷ 0 ∷ 0 ∷ 0 ∷ 0 ∷ 4 ∷ 1 ∷ 0 ∷ 1 ∷ [])
    (moments 2)

-- two features, swaps and tide gates; attributes 0, the berth, and 1, the ramp. Expressions true, swaps, tide gates, one of the two, not swaps, swaps
-- and not swaps
abbrev pub ramps : List ℕ → List ℕ → List ℕ → Tables
ramps entries relations queries =
    tables_of 2 2 0 (1 ∷ 0 ∷ 0 ∷ 2 ∷ 0 ∷ 0 ∷ 2 ∷ 1 ∷ 0 ∷ 5 ∷ 1 ∷ 2 ∷ 3 ∷ 1 ∷ 0 ∷ 4 ∷ 1 ∷ 4 ∷ []) entries relations [] queries (moments 2)

-- the relation lists the ramp for swaps, the berth, and the ramp again for tide gates; the report is the relation
abbrev pub ramp_twice : Tables
ramp_twice = ramps (1 ∷ 1 ∷ 0 ∷ 0 ∷ 1 ∷ 2 ∷ []) (0 ∷ 3 ∷ []) (1 ∷ 0 ∷ 0 ∷ 0 ∷ [])

-- what is written for it, with such entries
abbrev pub ramp_written : ℕ → List ℕ → Outcome
ramp_written n entries = Outcome.counts n 1 0 1 (tables_of 0 2 0 (1 ∷ 0 ∷ 0 ∷ []) entries (0 ∷ n ∷ []) [] (1 ∷ 0 ∷ 0 ∷ 0 ∷ []) (moments 2))

-- the relation lists the berth and, under expression e, the ramp; the project form lists the ramp for swaps, again for tide gates, and the berth
abbrev pub ramp_projected : ℕ → Tables
ramp_projected e =
    ramps (0 ∷ 0 ∷ 1 ∷ e ∷ 1 ∷ 1 ∷ 1 ∷ 2 ∷ 0 ∷ 0 ∷ []) (0 ∷ 2 ∷ []) (1 ∷ 0 ∷ 0 ∷ 0 ∷ 3 ∷ 3 ∷ 0 ∷ 0 ∷ [])

-- n features; the model is an expression of this kind with words `first` and `count`; one relation, always present, always lists the one attribute;
-- the report is the relation. So the attribute's row has the permitted configurations
abbrev pub quay_of : ℕ → ℕ → ℕ → ℕ → Tables
quay_of kind n first count = tables_of n 1 0 (kind ∷ first ∷ count ∷ 1 ∷ 0 ∷ 0 ∷ []) (0 ∷ 1 ∷ []) (1 ∷ 1 ∷ []) [] (1 ∷ 0 ∷ 0 ∷ 0 ∷ []) (moments 1)

-- a quay has exactly one of the features
abbrev pub quay : ℕ → ℕ → ℕ → Tables
quay = quay_of 6

-- what is written for it at a permitted configuration
abbrev pub quay_written : Outcome
quay_written = Outcome.counts 1 1 0 1 (tables_of 0 1 0 (1 ∷ 0 ∷ 0 ∷ []) (0 ∷ 0 ∷ []) (0 ∷ 1 ∷ []) [] (1 ∷ 0 ∷ 0 ∷ 0 ∷ []) (moments 1))

-- one feature; attributes 0, the arrival, 1, the passengers, and 2, the ship. Expressions true and the feature. The relation always lists all three; the
-- report selects from it by comparison f
abbrev pub arrivals : List ℕ → ℕ → List ℕ → Tables
arrivals comparisons f kinds =
    tables_of 1 3 0 (1 ∷ 0 ∷ 0 ∷ 2 ∷ 0 ∷ 0 ∷ []) (0 ∷ 0 ∷ 1 ∷ 0 ∷ 2 ∷ 0 ∷ []) (0 ∷ 3 ∷ []) comparisons (1 ∷ 0 ∷ 0 ∷ 0 ∷ 2 ∷ f ∷ 0 ∷ 0 ∷ []) kinds

-- the arrival is a moment, the passengers are a count, the ship is a name
abbrev pub kinds012 : List ℕ
kinds012 = 0 ∷ 1 ∷ 2 ∷ []

-- the arrival compared with the passengers; with the constant 830 of a kind; the passengers with the constant 300 of a kind; always
abbrev pub arrival_by_count : List ℕ
arrival_by_count = 3 ∷ 0 ∷ 0 ∷ 1 ∷ 0 ∷ []

abbrev pub arrival_by : ℕ → List ℕ
arrival_by kind = 2 ∷ 0 ∷ 0 ∷ 830 ∷ kind ∷ []

abbrev pub passengers_by : ℕ → List ℕ
passengers_by kind = 2 ∷ 0 ∷ 1 ∷ 300 ∷ kind ∷ []

abbrev pub always_words : List ℕ
always_words = 1 ∷ 0 ∷ 0 ∷ 0 ∷ 0 ∷ []

-- two features; the relation always lists attribute 0 and lists attribute 1 where not both are on. Queries follow the relation
abbrev pub lacking : List ℕ → List ℕ → Tables
lacking comparisons queries =
    tables_of 2 2 0 (1 ∷ 0 ∷ 0 ∷ 2 ∷ 0 ∷ 0 ∷ 2 ∷ 1 ∷ 0 ∷ 4 ∷ 1 ∷ 2 ∷ 3 ∷ 3 ∷ 0 ∷ []) (0 ∷ 0 ∷ 1 ∷ 4 ∷ []) (0 ∷ 2 ∷ []) comparisons
    (1 ∷ 0 ∷ 0 ∷ 0 ∷ queries) (0 ∷ 1 ∷ [])

-- a file that compares attribute 0 with attribute 1, and its kind lines
abbrev pub kind_file : List ℕ → List ℕ
kind_file kinds =
    bytes "(head 0 2 0)\n(expression 1 0 0)\n(entry 0 0)\n(entry 1 0)\n(relation 0 2)\n(comparison 3 0 0 1 0)\n(query 1 0 0 0)\n(query 2 0 0 0)\n"
    ++ kinds

-- ---- tables of the seventh wish: two features, swaps and tide gates; attributes 0, the berth, and 1, the ramp. Expressions true, swaps, tide gates, not swaps,
-- tide gates and not swaps, false

abbrev pub left_out : List ℕ → List ℕ → List ℕ → List ℕ → Tables
left_out entries relations comparisons queries =
    tables_of 2 2 0 (1 ∷ 0 ∷ 0 ∷ 2 ∷ 0 ∷ 0 ∷ 2 ∷ 1 ∷ 0 ∷ 3 ∷ 1 ∷ 0 ∷ 4 ∷ 2 ∷ 3 ∷ 0 ∷ 0 ∷ 0 ∷ []) entries relations comparisons queries (moments 2)

-- one relation, the swaps, present where swaps are on, lists the berth; queries
abbrev pub swaps_alone : List ℕ → Tables
swaps_alone = left_out (0 ∷ 0 ∷ []) (1 ∷ 1 ∷ []) []

-- the report reaches the relation where expression e holds, and is empty elsewhere
abbrev pub swaps_where : ℕ → Tables
swaps_where e = swaps_alone (1 ∷ 0 ∷ 0 ∷ 0 ∷ 0 ∷ 0 ∷ 0 ∷ 0 ∷ 4 ∷ e ∷ 0 ∷ 1 ∷ [])

-- the relation, always present, lists the ramp under expression e; the report is a project form with these entries over it
abbrev pub ramp_listed : ℕ → List ℕ → ℕ → Tables
ramp_listed e entries count = left_out (1 ∷ e ∷ entries) (0 ∷ 1 ∷ []) [] (1 ∷ 0 ∷ 0 ∷ 0 ∷ 3 ∷ count ∷ 0 ∷ 0 ∷ [])

-- the relation lists the ramp where swaps are on; the inner project form lists it always, the outer one where they are off
abbrev pub nested : Tables
nested = left_out (1 ∷ 1 ∷ 1 ∷ 0 ∷ 1 ∷ 3 ∷ []) (0 ∷ 1 ∷ []) [] (1 ∷ 0 ∷ 0 ∷ 0 ∷ 3 ∷ 1 ∷ 0 ∷ 0 ∷ 3 ∷ 1 ∷ 1 ∷ 0 ∷ [])

-- a check in the strict reading, and in the filled one
abbrev pub checked : Tables → Case
checked T = Case.checks Reading.Strict T 1024

abbrev pub checked_filled : Tables → Case
checked_filled T = Case.checks Reading.Filled T 1024

abbrev pub h1_text : List ℕ
h1_text =
    bytes
    "(head 2 3 0)\n(expression 1 0 0)\n(expression 2 0 0)\n(expression 2 1 0)\n(entry 0 0)\n(entry 1 0)\n(entry 2 2)\n(entry 0 0)\n(entry 2 2)\n(relation 0 3)\n(query 1 0 0 0)\n(query 3 2 0 0)\n"

-- H1 to H10, W3 and W5
abbrev pub harbour_examples : List Example
harbour_examples =
    -- H1, as tables and as a file
    (checked (h1 2) gives Outcome.rows (15 ∷ replicate 31 0 ++ 12 ∷ replicate 991 0))
    ∷ (Case.program h1_text gives Outcome.printed (bytes "(accepted)\n(at 0 (has 0))\n(at 1 (has 0))\n(at 2 (has 0 2))\n(at 3 (has 0 2))\n"))
    -- H2, H3
    ∷ (checked (harbour 2 h1_expressions (h1_entries 1) h1_queries) gives Outcome.refused 17 1 2 1)
    ∷ (checked (harbour 2 h1_expressions (h1_entries 0) h1_queries) gives Outcome.refused 17 1 2 0)
    -- H4
    ∷ (Case.configures Reading.Strict (h1 2) 0 10 2 0 8
    gives Outcome.counts 3 1 0 2
    (tables_of 0 3 0 (1 ∷ 0 ∷ 0 ∷ []) (0 ∷ 0 ∷ 1 ∷ 0 ∷ 0 ∷ 0 ∷ []) (0 ∷ 2 ∷ []) [] (1 ∷ 0 ∷ 0 ∷ 0 ∷ 3 ∷ 1 ∷ 0 ∷ 0 ∷ []) (moments 3)))
    -- H5, H6, H7
    ∷ (checked (harbour 2 h1_expressions schema_entries (1 ∷ 0 ∷ 0 ∷ 0 ∷ 1 ∷ 0 ∷ 0 ∷ 0 ∷ 5 ∷ 0 ∷ 1 ∷ 0 ∷ [])) gives Outcome.refused 18 2 0 0)
    ∷ (checked (harbour 2 h1_expressions schema_entries (1 ∷ 0 ∷ 0 ∷ 0 ∷ 5 ∷ 0 ∷ 0 ∷ 0 ∷ [])) gives Outcome.refused 8 1 0 0)
    ∷ (checked (harbour 2 h1_expressions schema_entries (0 ∷ 0 ∷ 0 ∷ 0 ∷ 1 ∷ 0 ∷ 0 ∷ 0 ∷ 6 ∷ 0 ∷ 1 ∷ 0 ∷ [])) gives Outcome.refused 19 2 0 0)
    -- H8
    ∷ (checked (harbour 2 (0 ∷ 0 ∷ 0 ∷ 2 ∷ 0 ∷ 0 ∷ 2 ∷ 1 ∷ 0 ∷ []) (h1_entries 2) h1_queries) gives Outcome.refused 12 0 0 0)
    -- H9, with 11 features and with 10
    ∷ (checked (h1 11) gives Outcome.refused 1 0 0 0)
    ∷ (checked (h1 10) gives Outcome.rows (replicate 16 (2 ^ 64 - 1) ++ replicate 16 0 ++ replicate 16 0xcccc_cccc_cccc_cccc ++ replicate 976 0))
    -- H10, in the strict reading and in the filled one
    ∷ (checked h10 gives Outcome.refused 17 3 0 0)
    ∷ (checked_filled h10 gives Outcome.rows (12 ∷ replicate 31 0 ++ 12 ∷ replicate 991 0))
    -- W3: a relation guarded by its own feature, under a choice on it, with an entry that holds only where the relation is absent
    ∷ (checked (guarded (0 ∷ 0 ∷ 1 ∷ 2 ∷ []) 2) gives Outcome.refused 14 0 1 0)
    -- W5: the project forms 2 and 3 and their product, the report, all fail, 3 at a lower configuration than 2; from the report 3 is met before
    -- 2. The lowest form is named
    ∷ (checked
    (harbour 2 h1_expressions (h1_entries 1 ++ (2 ∷ 0 ∷ []))
    (1 ∷ 0 ∷ 0 ∷ 0 ∷ 1 ∷ 0 ∷ 0 ∷ 0 ∷ 3 ∷ 2 ∷ 0 ∷ 0 ∷ 3 ∷ 1 ∷ 1 ∷ 0 ∷ 5 ∷ 3 ∷ 2 ∷ 0 ∷ []))
    gives Outcome.refused 17 2 2 1)
    ∷ []

-- the second wish
abbrev pub repeat_examples : List Example
repeat_examples =
    -- 14 tests each entry by itself: the ramp's second entry holds nowhere, its first does
    (checked (ramps (1 ∷ 1 ∷ 0 ∷ 0 ∷ 1 ∷ 5 ∷ []) (0 ∷ 3 ∷ []) (1 ∷ 0 ∷ 0 ∷ 0 ∷ [])) gives Outcome.refused 14 0 1 0)
    -- configuring keeps each attribute's first entry that holds: with both features the first, with tide gates alone the second, with none neither
    ∷ (Case.configures Reading.Strict ramp_twice 3 6 2 0 4 gives ramp_written 2 (1 ∷ 0 ∷ 0 ∷ 0 ∷ []))
    ∷ (Case.configures Reading.Strict ramp_twice 2 6 2 0 4 gives ramp_written 2 (0 ∷ 0 ∷ 1 ∷ 0 ∷ []))
    ∷ (Case.configures Reading.Strict ramp_twice 0 6 2 0 4 gives ramp_written 1 (0 ∷ 0 ∷ []))
    ∷ (Case.configures Reading.Strict (ramp_projected 0) 3 10 2 0 8
    gives Outcome.counts 4 1 0 2
    (tables_of 0 2 0 (1 ∷ 0 ∷ 0 ∷ []) (0 ∷ 0 ∷ 1 ∷ 0 ∷ 1 ∷ 0 ∷ 0 ∷ 0 ∷ []) (0 ∷ 2 ∷ []) [] (1 ∷ 0 ∷ 0 ∷ 0 ∷ 3 ∷ 2 ∷ 0 ∷ 0 ∷ []) (moments 2)))
    -- acceptance is judged on the joined lists: a project form whose second entry of the ramp holds where the relation has none
    ∷ (checked (ramp_projected 1) gives Outcome.refused 17 1 1 2)
    ∷ []

-- the fourth wish
abbrev pub quay_examples : List Example
quay_examples =
    -- A quay is tidal, locked or floating, never two: at 1, 2 and 4, and at no other of the eight configurations
    (Case.program (bytes "(head 3 1 0)\n(expression 6 0 3)\n(expression 1 0 0)\n(entry 0 1)\n(relation 1 1)\n(query 1 0 0 0)\n")
    gives Outcome.printed (bytes "(accepted)\n(at 1 (has 0))\n(at 2 (has 0))\n(at 4 (has 0))\n"))
    -- so a configuration with one on is configured, and none with two or with none
    ∷ (Case.configures Reading.Strict (quay 3 0 3) 2 2 2 0 4 gives quay_written)
    ∷ (Case.configures Reading.Strict (quay 3 0 3) 3 2 2 0 4 gives Outcome.refused 20 0 0 3)
    ∷ (Case.configures Reading.Strict (quay 3 0 3) 0 2 2 0 4 gives Outcome.refused 20 0 0 0)
    -- a count outside 1 to 10 is 3
    ∷ (checked (quay 3 0 0) gives Outcome.refused 3 0 0 0)
    ∷ (checked (quay 10 0 11) gives Outcome.refused 3 0 0 0)
    -- a range that passes n is 3: one past n; with no feature there is none; and where the sum of the two, 65537, is 1 in 16 bits
    ∷ (checked (quay 3 1 3) gives Outcome.refused 3 0 0 0)
    ∷ (checked (quay 0 0 1) gives Outcome.refused 3 0 0 0)
    ∷ (checked (quay 3 65535 2) gives Outcome.refused 3 0 0 0)
    -- 7 and over are unknown
    ∷ (checked (quay_of 7 3 0 3) gives Outcome.refused 3 0 0 0)
    ∷ []

-- the fifth wish
abbrev pub kind_examples : List Example
kind_examples =
    -- A report compared an arrival with a passenger count: 25, place the select, item the left attribute
    (checked (arrivals arrival_by_count 0 kinds012) gives Outcome.refused 25 1 0 0)
    -- a constant's kind stands in word c, which 7 no longer wants 0
    ∷ (checked (arrivals (arrival_by 1) 0 kinds012) gives Outcome.refused 25 1 0 0)
    ∷ (checked (arrivals (passengers_by 0) 0 kinds012) gives Outcome.refused 25 1 1 0)
    -- at every configuration that reaches them, choices taken: where the feature is off; where it is on
    ∷ (checked (arrivals (arrival_by_count ++ always_words ++ 7 ∷ 0 ∷ 1 ∷ 1 ∷ 0 ∷ []) 2 kinds012) gives Outcome.refused 25 1 0 0)
    ∷ (checked (arrivals (arrival_by_count ++ always_words ++ 7 ∷ 0 ∷ 1 ∷ 0 ∷ 1 ∷ []) 2 kinds012) gives Outcome.refused 25 1 0 1)
    -- through not, and, or
    ∷ (checked (arrivals (arrival_by_count ++ 4 ∷ 0 ∷ 0 ∷ 0 ∷ 0 ∷ []) 1 kinds012) gives Outcome.refused 25 1 0 0)
    ∷ (checked (arrivals (arrival_by_count ++ always_words ++ 6 ∷ 0 ∷ 0 ∷ 1 ∷ 0 ∷ []) 2 kinds012) gives Outcome.refused 25 1 0 0)
    -- the lowest left attribute at fault, of two comparisons; not the right one, though it is lower
    ∷ (checked (arrivals (passengers_by 0 ++ arrival_by 1 ++ 5 ∷ 0 ∷ 0 ∷ 1 ∷ 0 ∷ []) 2 kinds012) gives Outcome.refused 25 1 0 0)
    ∷ (checked (arrivals (3 ∷ 0 ∷ 2 ∷ 1 ∷ 0 ∷ []) 0 kinds012) gives Outcome.refused 25 1 2 0)
    -- looked for only when 16 fails there at no configuration: kinds differ at 0, the attribute is missing at 3
    ∷ (checked (lacking arrival_by_count (2 ∷ 0 ∷ 0 ∷ 0 ∷ [])) gives Outcome.refused 16 1 1 3)
    -- but a lower form's 25 comes before a higher form's 16
    ∷ (checked (lacking (arrival_by 1 ++ passengers_by 1) (2 ∷ 0 ∷ 0 ∷ 0 ∷ 2 ∷ 1 ∷ 1 ∷ 0 ∷ [])) gives Outcome.refused 25 1 0 0)
    -- 24: a kind table of no words, of one too few, of one too many; else the lowest word over 2; else the lowest comparison with such a kind, which no
    -- select reaches
    ∷ (checked (arrivals always_words 0 []) gives Outcome.refused 24 0 0 0)
    ∷ (checked (arrivals always_words 0 (0 ∷ 1 ∷ [])) gives Outcome.refused 24 0 0 0)
    ∷ (checked (arrivals always_words 0 (0 ∷ 1 ∷ 2 ∷ 0 ∷ [])) gives Outcome.refused 24 0 0 0)
    ∷ (checked (arrivals (arrival_by 3) 0 (0 ∷ 3 ∷ 65535 ∷ [])) gives Outcome.refused 24 1 0 0)
    ∷ (checked (arrivals (always_words ++ arrival_by 3 ++ arrival_by 65535) 0 kinds012) gives Outcome.refused 24 1 0 0)
    -- after 10, and before 11 and 12
    ∷ (checked (tables_of 0 1 0 (1 ∷ 0 ∷ 0 ∷ []) (0 ∷ 0 ∷ []) [] [] (0 ∷ 0 ∷ 0 ∷ 0 ∷ []) []) gives Outcome.refused 10 0 0 0)
    ∷ (Case.checks Reading.Strict (tables_of 0 1 0 (0 ∷ 0 ∷ 0 ∷ []) [] [] [] (0 ∷ 0 ∷ 0 ∷ 0 ∷ []) []) 0 gives Outcome.refused 24 0 0 0)
    -- configuring copies word c, and the kinds stay
    ∷ (Case.configures Reading.Strict (arrivals (passengers_by 1) 0 kinds012) 1 6 2 5 8
    gives Outcome.counts 3 1 1 2
    (tables_of 0 3 0 (1 ∷ 0 ∷ 0 ∷ []) (0 ∷ 0 ∷ 1 ∷ 0 ∷ 2 ∷ 0 ∷ []) (0 ∷ 3 ∷ []) (passengers_by 1) (1 ∷ 0 ∷ 0 ∷ 0 ∷ 2 ∷ 0 ∷ 0 ∷ 0 ∷ []) kinds012))
    -- a harbour file may end in kind lines; with none, all kinds are 0; some, but not m, are 24; none past the 64th is read
    ∷ (Case.program (kind_file (bytes "(kind 0)\n(kind 1)\n")) gives Outcome.printed (bytes "(refused 25 1 0 0)\n"))
    ∷ (Case.program (kind_file (bytes "(kind 1)\n(kind 1)\n")) gives Outcome.printed (bytes "(accepted)\n(at 0 (has 0 1))\n"))
    ∷ (Case.program (kind_file []) gives Outcome.printed (bytes "(accepted)\n(at 0 (has 0 1))\n"))
    ∷ (Case.program (kind_file (bytes "(kind 0)\n")) gives Outcome.printed (bytes "(refused 24 0 0 0)\n"))
    ∷ (Case.program (kind_file (concat 64 (λ i. bytes "(kind 0)\n"))) gives Outcome.printed (bytes "(refused 24 0 0 0)\n"))
    ∷ (Case.program (kind_file (concat 65 (λ i. bytes "(kind 0)\n"))) gives Outcome.printed (bytes "(unread 73)\n"))
    ∷ []

-- the seventh wish
abbrev pub filled_examples : List Example
filled_examples =
    -- An absent relation counts as empty, and configuring writes empty for it; strictly it is refused
    (checked (swaps_alone (1 ∷ 0 ∷ 0 ∷ 0 ∷ [])) gives Outcome.refused 15 0 0 0)
    ∷ (Case.configures Reading.Filled (swaps_alone (1 ∷ 0 ∷ 0 ∷ 0 ∷ [])) 0 2 2 0 4
    gives Outcome.counts 0 0 0 1 (tables_of 0 2 0 (1 ∷ 0 ∷ 0 ∷ []) [] [] [] (0 ∷ 0 ∷ 0 ∷ 0 ∷ []) (moments 2)))
    ∷ (Case.configures Reading.Filled (swaps_alone (1 ∷ 0 ∷ 0 ∷ 0 ∷ [])) 1 2 2 0 4
    gives Outcome.counts 1 1 0 1 (tables_of 0 2 0 (1 ∷ 0 ∷ 0 ∷ []) (0 ∷ 0 ∷ []) (0 ∷ 1 ∷ []) [] (1 ∷ 0 ∷ 0 ∷ 0 ∷ []) (moments 2)))
    -- 15 where it is absent everywhere it is reached, though present elsewhere; at the lowest configuration that reaches it; reached nowhere, it is not
    -- refused
    ∷ (checked_filled (swaps_where 3) gives Outcome.refused 15 0 0 0)
    ∷ (checked_filled (swaps_where 4) gives Outcome.refused 15 0 0 2)
    ∷ (Case.configures Reading.Filled (swaps_where 5) 3 2 2 0 12
    gives Outcome.counts 1 1 0 1 (tables_of 0 2 0 (1 ∷ 0 ∷ 0 ∷ []) (0 ∷ 0 ∷ []) (0 ∷ 1 ∷ []) [] (0 ∷ 0 ∷ 0 ∷ 0 ∷ []) (moments 2)))
    -- A projected attribute is dropped where its operand lacks it, and configuring leaves its entry out; a project that loses all stays one, of no entries
    ∷ (Case.configures Reading.Filled (ramp_listed 1 (1 ∷ 0 ∷ []) 1) 1 4 2 0 8
    gives Outcome.counts 2 1 0 2 (tables_of 0 2 0 (1 ∷ 0 ∷ 0 ∷ []) (1 ∷ 0 ∷ 1 ∷ 0 ∷ []) (0 ∷ 1 ∷ []) [] (1 ∷ 0 ∷ 0 ∷ 0 ∷ 3 ∷ 1 ∷ 0 ∷ 0 ∷ []) (moments 2)))
    ∷ (Case.configures Reading.Filled (ramp_listed 1 (1 ∷ 0 ∷ []) 1) 0 4 2 0 8
    gives Outcome.counts 0 1 0 2 (tables_of 0 2 0 (1 ∷ 0 ∷ 0 ∷ []) [] (0 ∷ 0 ∷ []) [] (1 ∷ 0 ∷ 0 ∷ 0 ∷ 3 ∷ 0 ∷ 0 ∷ 0 ∷ []) (moments 2)))
    ∷ (Case.configures Reading.Filled h10 0 10 2 0 16
    gives Outcome.counts 2 1 0 2
    (tables_of 0 3 0 (1 ∷ 0 ∷ 0 ∷ []) (0 ∷ 0 ∷ 1 ∷ 0 ∷ []) (0 ∷ 2 ∷ []) [] (0 ∷ 0 ∷ 0 ∷ 0 ∷ 3 ∷ 0 ∷ 0 ∷ 0 ∷ []) (moments 3)))
    -- 17 where it is missing at all places where it is listed: the berth, never there, is listed at 2 and 3; its lowest configuration, and not the lowest that
    -- reaches the form
    ∷ (checked_filled (ramp_listed 1 (1 ∷ 0 ∷ 0 ∷ 2 ∷ []) 2) gives Outcome.refused 17 1 0 2)
    -- by attribute and not by entry: the ramp is listed for swaps, and again without them, where each place lacks it
    ∷ (checked (ramp_listed 1 (1 ∷ 1 ∷ 1 ∷ 3 ∷ []) 2) gives Outcome.refused 17 1 1 0)
    ∷ (Case.configures Reading.Filled (ramp_listed 1 (1 ∷ 1 ∷ 1 ∷ 3 ∷ []) 2) 2 6 2 0 8
    gives Outcome.counts 0 1 0 2 (tables_of 0 2 0 (1 ∷ 0 ∷ 0 ∷ []) [] (0 ∷ 0 ∷ []) [] (1 ∷ 0 ∷ 0 ∷ 0 ∷ 3 ∷ 0 ∷ 0 ∷ 0 ∷ []) (moments 2)))
    -- the lowest configuration comes before the lowest attribute: of an empty operand the ramp is listed at 0, the berth at 1; then both at 0
    ∷ (checked_filled (left_out (1 ∷ 3 ∷ 0 ∷ 1 ∷ []) [] [] (0 ∷ 0 ∷ 0 ∷ 0 ∷ 3 ∷ 2 ∷ 0 ∷ 0 ∷ [])) gives Outcome.refused 17 1 1 0)
    ∷ (checked_filled (left_out (1 ∷ 3 ∷ 0 ∷ 0 ∷ []) [] [] (0 ∷ 0 ∷ 0 ∷ 0 ∷ 3 ∷ 2 ∷ 0 ∷ 0 ∷ [])) gives Outcome.refused 17 1 0 0)
    -- here the outer form is refused, strictly the inner one
    ∷ (checked_filled nested gives Outcome.refused 17 2 1 0)
    ∷ (checked nested gives Outcome.refused 17 1 1 0)
    -- 16, 18, 19 and 25 by configuration. A select on the berth of the absent relation; a product whose sides share the berth where swaps are on; a union of
    -- the relation with empty; a moment compared with a count
    ∷ (checked_filled (left_out (0 ∷ 0 ∷ []) (1 ∷ 1 ∷ []) (2 ∷ 0 ∷ 0 ∷ 5 ∷ 0 ∷ []) (1 ∷ 0 ∷ 0 ∷ 0 ∷ 2 ∷ 0 ∷ 0 ∷ 0 ∷ [])) gives Outcome.refused 16 1 0 0)
    ∷ (checked_filled (swaps_alone (1 ∷ 0 ∷ 0 ∷ 0 ∷ 1 ∷ 0 ∷ 0 ∷ 0 ∷ 5 ∷ 0 ∷ 1 ∷ 0 ∷ [])) gives Outcome.refused 18 2 0 1)
    ∷ (checked_filled (swaps_alone (1 ∷ 0 ∷ 0 ∷ 0 ∷ 0 ∷ 0 ∷ 0 ∷ 0 ∷ 6 ∷ 0 ∷ 1 ∷ 0 ∷ [])) gives Outcome.refused 19 2 0 1)
    ∷ (checked_filled (arrivals arrival_by_count 0 kinds012) gives Outcome.refused 25 1 0 0)
    -- a lower form's 16 comes before 15
    ∷ (checked_filled (left_out (0 ∷ 0 ∷ []) (1 ∷ 1 ∷ []) (2 ∷ 0 ∷ 0 ∷ 5 ∷ 0 ∷ [])
    (0 ∷ 0 ∷ 0 ∷ 0 ∷ 2 ∷ 0 ∷ 0 ∷ 0 ∷ 1 ∷ 0 ∷ 0 ∷ 0 ∷ 4 ∷ 3 ∷ 2 ∷ 1 ∷ []))
    gives Outcome.refused 16 1 0 1)
    -- told the filled reading, configuring checks 20 and 21 after typing as ever
    ∷ (Case.configures Reading.Filled h10 4 10 2 0 16 gives Outcome.refused 20 0 0 4)
    ∷ (Case.configures Reading.Filled h10 0 9 2 0 16 gives Outcome.refused 21 1 0 0)
    ∷ (Case.configures Reading.Strict h10 4 10 2 0 16 gives Outcome.refused 17 3 0 0)
    ∷ []

abbrev pub examples : List Example
examples = harbour_examples ++ repeat_examples ++ quay_examples ++ kind_examples ++ filled_examples
