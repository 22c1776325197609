-- A word of a table that was read as a number.
use Rattle.std.specs.Prelude.{ℕ, ◌<◌, ◌≡◌}

-- r is the word; a table word has 16 bits
pub record IsWord (word r : ℕ) : Type 0 where
  pub same : r ≡ word
  pub small : r < 65536
