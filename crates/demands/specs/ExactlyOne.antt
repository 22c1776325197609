-- What is found of an expression of kind 6.
use Rattle.std.specs.Prelude.{ℕ, ◌+◌, ◌*◌, ◌<◌, ◌≤◌, ◌≡◌, Bool, true, ◌&&◌, ◌||◌, not, eqb, get_or}
use Rattle.sets.specs.Search.{all_below}
use Rattle.sets.specs.Bits.{bit}
use Rattle.report.specs.Tables.{Tables, word}

-- the words of form e of table 0: kind 6, the first feature, how many
pub record IsKind6 (T : Tables) (e first count : ℕ) : Type 0 where
  pub kind : get_or T.expressions (e * 3) 0 ≡ 6
  pub first_is : word T.expressions 3 e 1 ≡ first
  pub count_is : word T.expressions 3 e 2 ≡ count

-- one of the `count` features from `first` on is on at configuration c, and never two
pub record OneOn (first count c : ℕ) : Type 0 where
  pub feature : ℕ
  pub from : first ≤ feature
  pub before : feature < first + count
  pub on : bit c feature ≡ true
  pub alone : (i : ℕ) → first ≤ i → i < first + count → bit c i ≡ true → i ≡ feature

-- of these features, feature first + i is on at c and no other
abbrev pub this_alone : ℕ → ℕ → ℕ → ℕ → Bool
this_alone first count c i = bit c (first + i) && all_below (λ j. eqb j i || not (bit c (first + j))) count
