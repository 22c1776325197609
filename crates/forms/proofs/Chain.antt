-- What the checks that accept leave for the next ones.
use Rattle.std.specs.Prelude.{Ok, Err}
use Prim.Native.Nat.{ℕ, zero, suc, ◌+◌, ◌*◌, ◌/◌, ◌≤◌, ◌<◌}
use mathlib.Core.Path.{◌≡◌, sym, ap, ap₂, ◌∙◌}
use mathlib.Core.Bool.{and-eq-true_iff}
use mathlib.Core.List.{List, []}
use native.Mathlib.Nat.{le_refl}
use native.Mathlib.Omega.{arith}
use borrow.Author.Tests.{not-false}
use lib.ListN.{length, get_or, drop}
use lib.Dec.{ltb, lit<}
use Rattle.report.specs.Tables.{Tables, shapes, shape_of, words, relation_expression, relation_start, projected_before}
use Rattle.report.specs.Verdicts.{Verdict, or_else}
use Rattle.report.specs.FormChecks.{length_check, lengths_check, relations_check, relation_fits}
use Rattle.report.specs.FormChecks.{queries_check, untaken_check, left_entry_check}
use Rattle.report.specs.Formed.{Sized}
use Rattle.report.specs.declared.Refusal.{Refusal}
use Rattle.report.proofs.VerdictLaws.{then_next, then_refused, if_accepted, first_accepted}
use Rattle.report.proofs.FormFacts.{list_inside}
use Rattle.report.proofs.Formed.{sized, all_fit}
use Rattle.report.proofs.EntryParts.{rest_count}
use Rattle.forms.specs.declared.Counts.{Counts}
use Rattle.forms.specs.MarkedForms.{queries_rest, QueriesReady, ListsReady}
use Rattle.forms.proofs.Queries.{rest_queries}

-- a check that refuses ends the chain; after one that accepts, the rest answers
pub stops : {v a : Verdict} {r : Refusal} (b : Verdict) → v ≡ a → v ≡ Err r → v ≡ or_else a b
stops b e f = f ∙ sym (then_refused b (sym e ∙ f))

pub goes_on : {v a w b : Verdict} → v ≡ a → v ≡ Ok tt → w ≡ b → w ≡ or_else a b
goes_on e f g = g ∙ sym (then_next (sym e ∙ f))

-- check 6 leaves lists that end in table 1
module _ (e : ℕ) (entries relations : List ℕ) (accepted : relations_check e entries relations ≡ Ok tt) where
  ends : (r : ℕ) → r ≤ length relations / 2 → relation_start relations r ≤ length entries / 2
  unfolding relations_check
  ends zero h = omega arith
  ends (suc r) h =
      list_inside entries _ _
      ((and-eq-true_iff (ltb (relation_expression relations r) e) _).0
      (all_fit _ (relation_fits e entries relations) (length relations / 2) accepted r h)).1

  split_in : {split : ℕ} → split ≡ relation_start relations (length relations / 2) → split ≤ length entries / 2
  split_in f = rw f (ends (length relations / 2) (le_refl _))

  module _ {split : ℕ} (f : split ≡ relation_start relations (length relations / 2)) where
    pub split_words : split * 2 ≤ length entries
    split_words = let l = split_in f in omega arith

    pub ready : (queries : List ℕ) → length entries / 2 ≤ 512 → 1 ≤ length queries / 4 → length queries / 4 ≤ 256
        → QueriesReady (drop (split * 2) entries) split queries
    ready queries few some fits =
        let c = rest_count entries split (split_in f) in
        record { few = omega arith; some = some; fits = fits }

    -- checks 8 to 10 with the project forms' entries are those with table 1
    pub rest_is : (n : Counts) (queries : List ℕ) → queries_rest n (drop (split * 2) entries) split queries
        ≡ or_else (queries_check n.expressions n.relations n.comparisons entries (relation_start relations (length relations / 2)) queries)
        (or_else (untaken_check queries)
        (left_entry_check (relation_start relations (length relations / 2) + projected_before queries (length queries / 4)) (length entries / 2)))
    rest_is n queries =
        ap₂ (λ (a b : Verdict). or_else a (or_else (untaken_check queries) b))
        (rest_queries entries split (split_in f) n.expressions n.relations n.comparisons queries
        ∙ ap (λ (s : ℕ). queries_check n.expressions n.relations n.comparisons entries s queries) f)
        (ap₂ (λ (s c : ℕ). left_entry_check (s + projected_before queries (length queries / 4)) c) f (rest_count entries split (split_in f)))

-- check 2 leaves the limits
pub lists_ready : (T : Tables) → lengths_check T ≡ Ok tt → ListsReady T
lists_ready T lengths = record {
  few = (size 1 (lit< tt)).fits;
  most = (size 2 (lit< tt)).fits;
  some = (size 4 (lit< tt)).enough;
  fits = (size 4 (lit< tt)).fits;
}
  where
    size : (t : ℕ) → t < 5 → Sized (get_or shapes t (shape_of 1 0 0)) (length (get_or (words T) t []))
    size t h =
        sized _ _
        (not-false _
        (if_accepted _ _
        (first_accepted (λ u. length_check (get_or shapes u (shape_of 1 0 0)) u (length (get_or (words T) u []))) 5 0 lengths t (omega arith) (omega arith))))
