-- What putting bytes into a buffer leaves there.
use Rattle.std.specs.Prelude.{◌≡◌, ℕ, ◌+◌, ◌<◌, ◌≤◌, List, ◌++◌, length, take, drop, Some, None, Option}

-- with room for them the bytes fill the buffer's front and the rest stays; without it nothing is put
abbrev pub Puts : List ℕ → Option ℕ → List ℕ → List ℕ → Type 0
Puts bytes (Some len) before after = (len ≡ length bytes) × (len ≤ length before) × (after ≡ bytes ++ drop len before)
Puts bytes None before after = (length before < length bytes) × (after ≡ before)

-- the bytes stand from the place `at` up to the place `end`; what is before them and past them stays
pub record Wrote (at : ℕ) (bytes : List ℕ) (end : ℕ) (before after : List ℕ) : Type 0 where
  pub place : end ≡ at + length bytes
  pub front : take end after ≡ take at before ++ bytes
  pub rest : (k : ℕ) → end ≤ k → drop k after ≡ drop k before
  pub kept : length after ≡ length before

-- with room for them the bytes are written
abbrev pub Fills : ℕ → List ℕ → ℕ → List ℕ → List ℕ → Type 0
Fills at bytes end before after = at + length bytes ≤ length before → Wrote at bytes end before after

-- and without room nothing is
abbrev pub PutsAt : ℕ → List ℕ → ℕ → List ℕ → List ℕ → Type 0
PutsAt at bytes end before after =
    Fills at bytes end before after × (length before < at + length bytes → (end ≡ at) × (after ≡ before))
