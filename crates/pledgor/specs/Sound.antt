-- What the pledgor book keeps.
use Rattle.std.specs.Prelude.{◌≡◌, ℕ, ◌<◌, ◌≤◌, true, length}
use Rattle.amounts.specs.Lots.{lot_fits}
use Rattle.pledgor.specs.declared.state.PledgorState.{PledgorState}
use Rattle.pledgor.specs.Lots.{is_home, lot_at}

-- the table has 32 entries, the pledgor's own lots are in range, and past them nothing is posted
abbrev pub Ranged : PledgorState → Type 0
Ranged p =
    (p.count ≤ 32)
    × (length p.lots ≡ 32)
    × ((k : ℕ) → k < p.count → lot_fits (lot_at p k).lot ≡ true)
    × ((k : ℕ) → p.count ≤ k → is_home (lot_at p k).place ≡ true)
