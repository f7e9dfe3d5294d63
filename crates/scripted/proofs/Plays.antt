-- What an entry does, as the code does it, as fault acts, and under a map.
use Rattle.std.proofs.Common.{◌≡◌, ℕ, suc, ◌<◌, ◌≤◌, true, false, cond, eqb, ltb, List, [], ◌∷◌, ◌++◌, map, length, get_or, take, drop, sym, refl, ap, ◌∙◌, arith}
use lib.ListN.{length-map}
use Rattle.std.specs.List.{remove}
use Rattle.std.proofs.lemmas.List.{append-nil, take_all, drop_all, drop_more, map-append, take-map, drop-map}
use Rattle.scripted.specs.declared.fault.Fault.{Fault}
use Rattle.scripted.specs.declared.fault.Fault.TheVariants.{Lose, Repeat, Move}
use Rattle.scripted.specs.declared.script.Entry.{Entry}
use Rattle.scripted.specs.Script.{item_at, by_fault, acted, play}

module _ {X : Type 0} where
  none_at : (ws : List X) (i : ℕ) → length ws ≤ i → item_at ws i ≡ []
  none_at ws i h = ap (take 1) (drop_all i ws h)

  pub item_at_lem : (ws : List X) (i : ℕ) (x : X) → i < length ws → x ≡ get_or ws i x → item_at ws i ≡ x ∷ []
  item_at_lem ws i x h e = ap (take 1) (drop_more ws i x h) ∙ ap (λ (y : X). y ∷ []) (sym e)

  removed_past : (ws : List X) (i : ℕ) → length ws ≤ i → remove ws i ≡ ws
  removed_past ws i h =
      let a = take_all i ws h in
      let b = drop_all (suc i) ws (omega arith) in
      ap (λ (z : List X). z ++ drop (suc i) ws) a ∙ ap (λ (z : List X). ws ++ z) b ∙ append-nil ws

  pub past : (k : Fault) (places i : ℕ) (ws : List X) → length ws ≤ i → ws ≡ by_fault k places i ws
  past Lose places i ws h = sym (removed_past ws i h)
  past Repeat places i ws h =
      elim (ltb (length ws) places) as (λ b. ws ≡ cond b (ws ++ item_at ws i) ws) [ true ↦ sym (ap (λ (z : List X). ws ++ z) (none_at ws i h) ∙ append-nil ws) | false ↦ refl ]
  past Move places i ws h =
      sym (ap (λ (z : List X). z ++ item_at ws i) (removed_past ws i h) ∙ ap (λ (z : List X). ws ++ z) (none_at ws i h) ∙ append-nil ws)

  map_by_fault : {Y : Type 0} (f : X → Y) (k : Fault) (places i : ℕ) (ws : List X) → map f (by_fault k places i ws) ≡ by_fault k places i (map f ws)
  map_by_fault f Lose places i ws = simp (map-append, take-map, drop-map)
  map_by_fault f Repeat places i ws = rw (length-map) (elim (ltb (length ws) places) as (λ b. map f (cond b (ws ++ item_at ws i) ws) ≡ cond b (map f ws ++ item_at (map f ws) i) (map f ws)) [ true ↦ simp (map-append, take-map, drop-map) | false ↦ refl ])
  map_by_fault f Move places i ws = simp (map-append, take-map, drop-map)

  -- a script acts on frames as on the bytes that they hold
  pub map_play : {Y : Type 0} (f : X → Y) (places count : ℕ) (es : List Entry) (ws : List X) → map f (play places count es ws) ≡ play places count es (map f ws)
  map_play f places count [] ws = refl
  map_play f places count (e ∷ es) ws =
      map_play f places count es (cond (eqb e.count count) (acted places e ws) ws)
      ∙ ap (play places count es) (elim (eqb e.count count) as (λ b. map f (cond b (acted places e ws) ws) ≡ cond b (acted places e (map f ws)) (map f ws)) [ true ↦ map_by_fault f e.fault places e.position ws | false ↦ refl ])
