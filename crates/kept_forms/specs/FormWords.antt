-- What the private functions do: the number of one form, and its words with the new numbers. proofs/ ties these to the definitions.
use Rattle.std.specs.Prelude.{ℕ, ◌<◌, ◌≤◌, ◌≡◌, cond, List, [], ◌∷◌, length, get_or}
use Rattle.sets.specs.Bits.{member_count}
use Rattle.sets.specs.Writing.{Room}
use Rattle.report.specs.Tables.{Tables, expression_count, relation_count, comparison_count}
use Rattle.report.specs.Typing.{present}
use Rattle.report.specs.Configuring.{comparison_words_of, query_words_of, new_relation, read_as}
use Rattle.report.specs.Formed.{ComparisonLower, QueryLower}
use Rattle.report.specs.declared.Comparison.{Comparison}
use Rattle.report.specs.declared.Query.{Query}
use Rattle.report.specs.declared.Operands.{Operands}
use Rattle.report.specs.declared.Reading.{Reading}
use Rattle.at_configuration.specs.AtConfiguration.{AtReads, PresentReads}

-- ---- the number of one form

-- a form of tables T that refers to these forms: of a choice the expression is one of T, and the alternatives have numbers
pub record TargetReads (T : Tables) (expression_rows : List ℕ) (c : ℕ) (numbers : List ℕ) (to : Operands) : Type 0 where
  pub reads : AtReads T expression_rows c
  pub lower : (e a b : ℕ) → to ≡ Operands.Choice e a b → (e < expression_count T) × (a < length numbers) × (b < length numbers)

pub record TargetReadable (expression_rows : List ℕ) (c : ℕ) (numbers : List ℕ) (kept : ℕ) (to : Operands) : Type 0 where
  pub tables : Tables
  pub reads : TargetReads tables expression_rows c numbers to
  pub few : kept < 65536

-- ---- the words of one comparison

-- where `numbers` has the new numbers of lower ones
abbrev pub comparison_words : List ℕ → Comparison → List ℕ
comparison_words numbers = comparison_words_of (λ k. get_or numbers k 0)

-- the numbers are words, and there is room for them
pub record AtomWritable (kind o a b k : ℕ) (out : List ℕ) (at : ℕ) : Type 0 where
  pub operator : o < 65536
  pub first : a < 65536
  pub second : b < 65536
  pub third : k < 65536
  pub room : Room (kind ∷ o ∷ a ∷ b ∷ k ∷ []) out at

-- the operator, the attributes, the constant and its kind in a comparison are words of 16 bits
abbrev pub ComparisonSmall : Comparison → Type 0
ComparisonSmall Comparison.Malformed = Unit {0}
ComparisonSmall Comparison.Never = Unit {0}
ComparisonSmall Comparison.Always = Unit {0}
ComparisonSmall (Comparison.Constant o a b k) = (o < 65536) × (a < 65536) × (b < 65536) × (k < 65536)
ComparisonSmall (Comparison.Attribute o a b) = (o < 65536) × (a < 65536) × (b < 65536)
ComparisonSmall (Comparison.Not a) = Unit {0}
ComparisonSmall (Comparison.And a b) = Unit {0}
ComparisonSmall (Comparison.Or a b) = Unit {0}
ComparisonSmall (Comparison.Choice a b d) = Unit {0}

-- x may stand as comparison `form`, those below it have numbers, and there is room for its words
pub record ComparisonWritable (numbers : List ℕ) (x : Comparison) (out : List ℕ) (at : ℕ) : Type 0 where
  pub attributes : ℕ
  pub expressions : ℕ
  pub form : ℕ
  pub lower : ComparisonLower attributes expressions form x
  pub below : form ≤ length numbers
  pub small : ComparisonSmall x
  pub room : Room (comparison_words numbers x) out at

-- ---- the words of one query form

-- of relation a at c: where it is absent, those of the empty form
abbrev pub relation_words : Tables → ℕ → ℕ → List ℕ
relation_words T c a = cond (present T c a) (1 ∷ new_relation T c a ∷ 0 ∷ 0 ∷ []) (0 ∷ 0 ∷ 0 ∷ 0 ∷ [])

-- of form q of tables T at c: `form_sets` has the sets of the forms, `comparison_numbers` and `query_numbers` the new numbers
abbrev pub query_words : Tables → (c q : ℕ) → (form_sets comparison_numbers query_numbers : List ℕ) → Query → List ℕ
query_words T c q form_sets comparison_numbers query_numbers x =
    query_words_of (new_relation T c) (λ k. get_or comparison_numbers k 0) (λ k. get_or query_numbers k 0) (λ n. member_count (get_or form_sets q 0))
    (read_as T c Reading.Filled x)

-- relation a is one of the tables', and there is room for its words
pub record RelationWritable (expression_rows relations : List ℕ) (c a : ℕ) (out : List ℕ) (at : ℕ) : Type 0 where
  pub tables : Tables
  pub reads : PresentReads tables expression_rows relations c
  pub inside : a < relation_count tables
  pub room : Room (relation_words tables c a) out at

-- x may stand as query form q, it has a set, the comparisons and the forms below it have numbers, and there is room for its words
pub record QueryWritable (expression_rows relations : List ℕ) (c q : ℕ) (form_sets comparison_numbers query_numbers : List ℕ) (x : Query)
    (out : List ℕ) (at : ℕ)
    : Type 0 where
  pub tables : Tables
  pub reads : PresentReads tables expression_rows relations c
  pub lower : QueryLower tables q x
  pub typed : q < length form_sets
  pub compared : comparison_count tables ≤ length comparison_numbers
  pub below : q ≤ length query_numbers
  pub room : Room (query_words tables c q form_sets comparison_numbers query_numbers x) out at
