-- An equal answer is passed on alike: told so, it is told as promised.
use Prim.Native.Nat.{ℕ}
use mathlib.Core.Path.{◌≡◌, refl, sym, ap, ◌∙◌}
use mathlib.Core.List.{List}
use Rattle.report.specs.Tables.{Tables}
use Rattle.report.specs.declared.Reading.{Reading}
use Rattle.report.specs.Verdicts.{Verdict}
use Rattle.checking.specs.Promises.{Checks}
use Rattle.configuring.specs.Promises.{Configured, Configures}
use Rattle.finding.specs.Finding.{FindAnswer, Finds}
use Rattle.wall_page.specs.Page.{PageAnswer, PageWritten}
use Rattle.gelvomas.specs.Answers.{answer_number, answer_words, CheckTold, configured_number, configured_words, ConfigureTold}
use Rattle.gelvomas.specs.Answers.{found_number, found_words, FindTold, page_number, page_words, PageTold}

-- in each of them the reading is that which was told
pub answered : {T : Tables} {R S : Reading} {lent words words' rows : List ℕ} {number : ℕ} {v w : Verdict} → R ≡ S → v ≡ w → Checks T R lent v rows
    → number ≡ answer_number w → words' ≡ answer_words w words → CheckTold T S lent words number words' rows
answered {words = words} d e k n t =
    let f = sym e ∙ k.0 in
    rw (← d) record { returned = n ∙ ap answer_number f; told = t ∙ ap (λ (x : Verdict). answer_words x words) f; checks = (refl, k.1) }

pub configure_answered : (T : Tables) {R S : Reading} → R ≡ S → (c : ℕ) (new_entries new_relations new_comparisons new_queries : List ℕ) {r : Configured}
    {new_entries' new_relations' new_comparisons' new_queries' : List ℕ}
    → Configures T R c new_entries new_relations new_comparisons new_queries r new_entries' new_relations' new_comparisons' new_queries'
    → {number : ℕ} {words : List ℕ} → number ≡ configured_number r → words ≡ configured_words r
    → ConfigureTold T S c new_entries new_relations new_comparisons new_queries number words new_entries' new_relations' new_comparisons' new_queries'
configure_answered T d c new_entries new_relations new_comparisons new_queries k n t = rw (← d) record {
  returned = n ∙ ap configured_number k.answers;
  told = t ∙ ap configured_words k.answers;
  configures = rw k.answers at k;
}

pub find_answered : (T : Tables) {R S : Reading} → R ≡ S → (wanted : ℕ) {r s : FindAnswer} → r ≡ s → Finds T R wanted r
    → {number : ℕ} {words : List ℕ} → number ≡ found_number s → words ≡ found_words s → FindTold T S wanted number words
find_answered T d wanted e k n t = let f = sym e ∙ k in rw (← d) record { returned = n ∙ ap found_number f; told = t ∙ ap found_words f }

pub page_answered : (T : Tables) {R S : Reading} → R ≡ S → (lent : List ℕ) {r s : PageAnswer} {bytes : List ℕ} → r ≡ s → PageWritten T R lent r bytes
    → {number : ℕ} {words : List ℕ} → number ≡ page_number s → words ≡ page_words s → PageTold T S lent number words bytes
page_answered T d lent e k n t =
    let f = sym e ∙ k.answers in
    rw (← d) record { returned = n ∙ ap page_number f; told = t ∙ ap page_words f; stored = k.stored }
