-- Laws of the two parts of table 1: the relations' entries and the project forms' entries.
use Prim.Native.Nat.{ℕ, suc, ◌+◌, ◌-◌, ◌*◌, ◌/◌, ◌<◌, ◌≤◌}
use mathlib.Core.Path.{◌≡◌, ap, ◌∙◌}
use mathlib.Core.List.{List}
use native.Mathlib.Nat.{le_refl}
use native.Mathlib.Omega.{arith}
use lib.ListN.{length, get_or, take, drop, length-drop}
use lib.Seq.{length-take-le, take_all, get_or-take, get_or-drop}
use Rattle.report.specs.Tables.{Tables, entry_attribute, entry_expression, relation_length, query, entry_count, relation_count, query_count}
use Rattle.report.specs.Tables.{relation_start, relations_end, entries_of_relations, entries_of_projects, project_length, projected_before}
use Rattle.report.specs.Formed.{Formed, EntriesFrom}
use Rattle.report.proofs.FormedFacts.{relation_starts, relation_within, project_inside}

-- ---- a table 1 cut after its first n entries

-- the words from n on, as a part of a slice is said
pub words_from : (l : List ℕ) (n : ℕ) → take (length l - n) (drop n l) ≡ drop n l
words_from l n = take_all (length l - n) (drop n l) (let d = length-drop n l in omega arith)

module _ (entries : List ℕ) (n : ℕ) where
  pub first_count : n ≤ length entries / 2 → length (take (n * 2) entries) / 2 ≡ n
  first_count h = let l = length-take-le (n * 2) entries (omega arith) in omega arith

  pub rest_count : n ≤ length entries / 2 → n + length (drop (n * 2) entries) / 2 ≡ length entries / 2
  rest_count h = let l = length-drop (n * 2) entries in omega arith

  module _ (k : ℕ) where
    word_at : (j : ℕ) → n * 2 + (k * 2 + j) ≡ (n + k) * 2 + j
    word_at j = omega arith

    pub first_attribute : k < n → entry_attribute (take (n * 2) entries) k ≡ entry_attribute entries k
    first_attribute h = get_or-take (n * 2) entries (k * 2) 0 (omega arith)

    pub first_expression : k < n → entry_expression (take (n * 2) entries) k ≡ entry_expression entries k
    first_expression h = get_or-take (n * 2) entries (k * 2 + 1) 0 (omega arith)

    pub rest_attribute : entry_attribute (drop (n * 2) entries) k ≡ entry_attribute entries (n + k)
    rest_attribute = get_or-drop (n * 2) entries (k * 2) 0 ∙ ap (λ (i : ℕ). get_or entries i 0) (omega arith)

    pub rest_expression : entry_expression (drop (n * 2) entries) k ≡ entry_expression entries (n + k)
    rest_expression = get_or-drop (n * 2) entries (k * 2 + 1) 0 ∙ ap (λ (i : ℕ). get_or entries i 0) (word_at 1)

-- ---- the parts of tables that the form checks accept

module _ {T : Tables} (F : Formed T) where
  end_within : relations_end T ≤ entry_count T
  end_within = relation_within F (relation_count T) (le_refl _)

  -- table 1 can be split there
  pub split_in : {split : ℕ} → split ≡ relations_end T → split * 2 ≤ length T.entries
  split_in e = let l = end_within in omega arith

  pub relation_part : EntriesFrom T 0 (entries_of_relations T)
  relation_part = record {
    inside = let l = first_count T.entries (relations_end T) end_within in let m = end_within in omega arith;
    attribute = λ k h. first_attribute T.entries (relations_end T) k (in_first k h) ∙ ap (entry_attribute T.entries) (omega arith);
    expression = λ k h. first_expression T.entries (relations_end T) k (in_first k h) ∙ ap (entry_expression T.entries) (omega arith);
  }
    where
      in_first : (k : ℕ) → k < length (entries_of_relations T) / 2 → k < relations_end T
      in_first k h = let l = first_count T.entries (relations_end T) end_within in omega arith

  pub project_part : EntriesFrom T (relations_end T) (entries_of_projects T)
  project_part = record {
    inside = let l = rest_count T.entries (relations_end T) end_within in omega arith;
    attribute = λ k h. rest_attribute T.entries (relations_end T) k;
    expression = λ k h. rest_expression T.entries (relations_end T) k;
  }

  -- each list lies in its part
  pub relation_in_part : (r : ℕ) → r < relation_count T
      → relation_start T.relations r + relation_length T.relations r ≤ length (entries_of_relations T) / 2
  relation_in_part r h =
      let l = first_count T.entries (relations_end T) end_within in
      let m = relation_starts T.relations (suc r) (relation_count T) h in
      omega arith

  pub project_in_part : (q : ℕ) → q < query_count T
      → projected_before T.queries q + project_length (query T.queries q) ≤ length (entries_of_projects T) / 2
  project_in_part q h =
      let l = rest_count T.entries (relations_end T) end_within in
      let m = project_inside F q h in
      omega arith
