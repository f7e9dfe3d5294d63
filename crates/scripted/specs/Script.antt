-- What a script's entries do to the list of waiting frames, which of them are unused, and which are in range.
use Rattle.std.specs.Prelude.{ℕ, Bool, cond, ◌&&◌, List, ◌++◌, length, take, drop, ◌==◌, nat_le, nat_lt, count_by}
use Rattle.std.specs.List.{fold, list_all, remove}
use Rattle.scripted.specs.declared.script.Entry.{Entry}
use Rattle.scripted.specs.declared.fault.Fault.{Fault}
use Rattle.scripted.specs.declared.fault.Fault.TheVariants.{Lose, Repeat, Move}

module _ {X : Type 0} where
  -- the item at a position, if there is one
  abbrev pub item_at : List X → ℕ → List X
  item_at ws i = take 1 (drop i ws)

  -- what a fault makes of the list, by places and position
  abbrev pub by_fault : Fault → ℕ → ℕ → List X → List X
  by_fault Lose places i ws = remove ws i
  by_fault Repeat places i ws = cond (nat_lt (length ws) places) (ws ++ item_at ws i) ws
  by_fault Move places i ws = remove ws i ++ item_at ws i

  abbrev pub acted : ℕ → Entry → List X → List X
  acted places e ws = by_fault e.fault places e.position ws

  -- what the entries of the call with this count make of the list, one after another in the script's order
  abbrev pub play : ℕ → ℕ → List Entry → List X → List X
  play places count es ws = fold (λ vs e. cond (e.count == count) (acted places e vs) vs) ws es

-- whether an entry is used up after this many counted calls
abbrev pub used : ℕ → Entry → Bool
used count e = nat_le e.count count

-- how many entries are not
abbrev pub unused : ℕ → List Entry → ℕ
unused count es = count_by (λ e. nat_lt count e.count) es

-- a count from 1 to a thousand million, a position from 0 to 15
abbrev pub entry_fits : Entry → Bool
entry_fits e = nat_le 1 e.count && (nat_le e.count 1000000000 && nat_le e.position 15)

-- at most 64 entries, each in range
abbrev pub script_fits : List Entry → Bool
script_fits es = nat_le (length es) 64 && list_all entry_fits es
