-- What is printed of tables, and what the printing reads.
use Rattle.std.specs.Prelude.{ℕ, ◌≤◌, ◌≡◌, List, [], ◌∷◌, length}
use Rattle.sets.specs.Rows.{row_of}
use Rattle.report.specs.Tables.{Tables}
use Rattle.report.specs.Expressions.{permitted}
use Rattle.report.specs.ColumnRows.{column_rows}
use Rattle.report.specs.Configuring.{written}
use Rattle.report.specs.Formed.{Formed}
use Rattle.report.specs.declared.TableWords.{TableWords}
use Rattle.harbour_file.specs.declared.Sizes.{Sizes}
use Rattle.harbour_file.specs.Filing.{FileWords, file_words, Held}

-- the number of features, the permitted configurations and the column rows of tables that have passed the form checks
pub record ColumnReads (T : Tables) (n : ℕ) (permits columns : List ℕ) : Type 0 where
  pub formed : Formed T
  pub features : n ≡ T.features
  pub permitting : permits ≡ row_of 16 (permitted T)
  pub shows : columns ≡ column_rows T

-- there are such tables, and room for every print
pub record ColumnReadable (n : ℕ) (permits columns out : List ℕ) : Type 0 where
  pub tables : Tables
  pub reads : ColumnReads tables n permits columns
  pub room : 201653 ≤ length out

-- the words lent for a file, where its head is decoded
abbrev pub words_in : TableWords → FileWords
words_in lent =
    file_words (lent.head.features ∷ lent.head.attributes ∷ lent.head.model ∷ []) lent.expressions.now lent.entries.now lent.relations.now
    lent.comparisons.now lent.queries.now lent.kinds.now

-- there are tables that stand in these words, and room for every print
pub record HeldReadable (sizes : Sizes) (words : FileWords) (out : List ℕ) : Type 0 where
  pub tables : Tables
  pub held : Held tables sizes words
  pub whole : 3 ≤ length words.head
  pub room : 201653 ≤ length out

-- afterwards the text stands at the start, what stood after it is as before, and the answer is its length
pub record Prints (text before after : List ℕ) (answer : ℕ) : Type 0 where
  pub long : answer ≡ length text
  pub stored : after ≡ written text before
