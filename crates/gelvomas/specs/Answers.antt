-- How an answer becomes numbers for C, and what the four C functions promise.
use Rattle.std.specs.Prelude.{ℕ, ◌≡◌, List, [], ◌∷◌, length, Ok, Err, Some, None}
use Rattle.report.specs.Tables.{Tables}
use Rattle.report.specs.Configuring.{configured}
use Rattle.report.specs.Calls.{answer, checking, configuring}
use Rattle.report.specs.Verdicts.{Verdict}
use Rattle.report.specs.declared.Reading.{Reading}
use Rattle.c_answers.specs.RefusalWords.{refusal_words}
use Rattle.checking.specs.Promises.{Checks}
use Rattle.configuring.specs.Promises.{Configured, configured_answer, Configures}
use Rattle.finding.specs.Finding.{FindAnswer, finding, lowest_wanted, found_answer}
use Rattle.wall_page.specs.Page.{PageAnswer, page_gives, page_after}

-- ---- checking

-- what checking T in a reading answers, with these rows lent
abbrev pub check_answer : Tables → Reading → List ℕ → Verdict
check_answer T R rows = answer T R (checking (length rows))

-- the number that is returned
abbrev pub answer_number : Verdict → ℕ
answer_number (Ok tt) = 0
answer_number (Err r) = 1

-- the four lent words afterwards: those of a refusal, or unchanged
abbrev pub answer_words : Verdict → List ℕ → List ℕ
answer_words (Ok tt) lent = lent
answer_words (Err r) lent = refusal_words r

-- the promise of `gelvomas_check`, with these rows and four words lent: the number that is returned, and the words and the rows afterwards
pub record CheckTold (T : Tables) (R : Reading) (lent words : List ℕ) (number : ℕ) (words' rows : List ℕ) : Type 0 where
  pub returned : number ≡ answer_number (check_answer T R lent)
  pub told : words' ≡ answer_words (check_answer T R lent) words
  pub checks : Checks T R lent (check_answer T R lent) rows

-- ---- configuring

-- what configuring T in a reading at c answers, with these tables 1 to 4 lent for writing
abbrev pub configure_answer : Tables → Reading → ℕ → List ℕ → List ℕ → List ℕ → List ℕ → Configured
configure_answer T R c new_entries new_relations new_comparisons new_queries =
    configured_answer (answer T R (configuring c (length new_entries) (length new_relations) (length new_comparisons) (length new_queries))) (configured T c R)

-- the number that is returned
abbrev pub configured_number : Configured → ℕ
configured_number (Ok n) = 0
configured_number (Err r) = 1

-- the four lent words afterwards: how many forms tables 1 to 4 have, or those of a refusal
abbrev pub configured_words : Configured → List ℕ
configured_words (Ok n) = n.entries ∷ n.relations ∷ n.comparisons ∷ n.queries ∷ []
configured_words (Err r) = refusal_words r

-- the promise of `gelvomas_configure`, at c, with these tables 1 to 4 lent for writing: the number that is returned, and the four words and the
-- lent tables afterwards
pub record ConfigureTold (T : Tables) (R : Reading) (c : ℕ) (new_entries new_relations new_comparisons new_queries : List ℕ) (number : ℕ)
    (words new_entries' new_relations' new_comparisons' new_queries' : List ℕ) : Type 0 where
  pub returned : number ≡ configured_number (configure_answer T R c new_entries new_relations new_comparisons new_queries)
  pub told : words ≡ configured_words (configure_answer T R c new_entries new_relations new_comparisons new_queries)
  pub configures :
      Configures T R c new_entries new_relations new_comparisons new_queries
      (configure_answer T R c new_entries new_relations new_comparisons new_queries) new_entries' new_relations' new_comparisons' new_queries'

-- ---- finding

-- what finding answers on T in a reading, where these attributes are wanted
abbrev pub find_answer : Tables → Reading → ℕ → FindAnswer
find_answer T R wanted = found_answer (answer T R (finding wanted)) (lowest_wanted T wanted)

-- the number that is returned: 0 found, 1 refused, 2 none
abbrev pub found_number : FindAnswer → ℕ
found_number (Ok (Some c)) = 0
found_number (Ok None) = 2
found_number (Err r) = 1

-- the four lent words afterwards: the configuration, or those of a refusal; a word that the answer does not use is 0
abbrev pub found_words : FindAnswer → List ℕ
found_words (Ok (Some c)) = c ∷ 0 ∷ 0 ∷ 0 ∷ []
found_words (Ok None) = 0 ∷ 0 ∷ 0 ∷ 0 ∷ []
found_words (Err r) = refusal_words r

-- the promise of `gelvomas_find`, where these attributes are wanted: the number that is returned, and the four words afterwards
pub record FindTold (T : Tables) (R : Reading) (wanted number : ℕ) (words : List ℕ) : Type 0 where
  pub returned : number ≡ found_number (find_answer T R wanted)
  pub told : words ≡ found_words (find_answer T R wanted)

-- ---- the page

-- the number that is returned
abbrev pub page_number : PageAnswer → ℕ
page_number (Ok lines) = 0
page_number (Err r) = 1

-- the four lent words afterwards: the number of lines, or those of a refusal; a word that the answer does not use is 0
abbrev pub page_words : PageAnswer → List ℕ
page_words (Ok lines) = lines ∷ 0 ∷ 0 ∷ 0 ∷ []
page_words (Err r) = refusal_words r

-- the promise of `gelvomas_page`, with these bytes lent: the number that is returned, and the four words and the bytes afterwards
pub record PageTold (T : Tables) (R : Reading) (lent : List ℕ) (number : ℕ) (words bytes : List ℕ) : Type 0 where
  pub returned : number ≡ page_number (page_gives T R lent)
  pub told : words ≡ page_words (page_gives T R lent)
  pub stored : bytes ≡ page_after T R lent
