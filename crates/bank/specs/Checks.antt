-- In which order are checks made, and what is handed back? Assumes nothing.
use Rattle.std.specs.Prelude.{Bool, cond, ℕ, zero, suc}

-- a check: its number where it applies, else what the later checks say
abbrev pub refuse : Bool → ℕ → ℕ → ℕ
refuse applies number later = cond applies number later

-- two checks, one after the other: the first number that isn't 0, which refuses nothing
abbrev pub or_later : ℕ → ℕ → ℕ
or_later zero later = later
or_later (suc k) later = suc k

module _ {A : Type 0} where
  -- what is handed back with a number: the result with 0, and the other thing with a refusal
  abbrev pub handed : ℕ → A → A → A
  handed zero result other = result
  handed (suc k) result other = other
