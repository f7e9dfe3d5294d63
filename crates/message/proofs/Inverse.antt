-- A message back from its body: a body loses nothing of it.
use Rattle.std.proofs.Common.{◌≡◌, ℕ, ◌^◌, ◌<◌, ◌≤◌, cond, eqb, List, [], ◌∷◌, length, get_or, take, drop, sym, refl, ap, ◌∙◌, arith, w64, SFits, to_z, of_z}
use Rattle.std.proofs.lemmas.Int.{to_z-of_z, ints}
use Rattle.message.specs.declared.Message.{Message}
use Rattle.message.specs.declared.Message.TheVariants.{Quiet, Call, Offer, Agree, Dispute, Resolve, Delivery, Substitute, Ask, Return, Decline, Satisfied, Release}
use Rattle.octets.specs.Numbers.{bytes_of, value}
use Rattle.message.specs.Bodies.{body_of, Typed, Malformed}
use Rattle.octets.proofs.Widths.{value_bytes_of}

abbrev message_from : ℕ → List ℕ → Message
message_from k fs =
    (cond (eqb k 1) (Quiet (value (take 4 (drop 0 fs))) (to_z w64 (value (take 8 (drop 4 fs)))))
    (cond (eqb k 2) (Call (value (take 4 (drop 0 fs))) (to_z w64 (value (take 8 (drop 4 fs)))) (value (take 8 (drop 12 fs))))
    (cond (eqb k 3) (Offer (value (take 4 (drop 0 fs))) (to_z w64 (value (take 8 (drop 4 fs)))) (value (take 8 (drop 12 fs))))
    (cond (eqb k 4) (Agree (value (take 4 (drop 0 fs))))
    (cond (eqb k 5) (Dispute (value (take 4 (drop 0 fs))) (value (take 8 (drop 4 fs))))
    (cond (eqb k 6) (Resolve (value (take 4 (drop 0 fs))) (to_z w64 (value (take 8 (drop 4 fs)))) (value (take 8 (drop 12 fs))))
    (cond (eqb k 7) (Delivery (value (take 4 (drop 0 fs))) (get_or fs 4 0) (get_or fs 5 0) (value (take 8 (drop 6 fs))))
    (cond (eqb k 8) (Substitute (get_or fs 0 0) (get_or fs 1 0) (value (take 8 (drop 2 fs))) (get_or fs 10 0))
    (cond (eqb k 9) (Ask (value (take 4 (drop 0 fs))) (get_or fs 4 0))
    (cond (eqb k 10) (Return (get_or fs 0 0))
    (cond (eqb k 11) (Decline (get_or fs 0 0))
    (cond (eqb k 12) (Satisfied (value (take 4 (drop 0 fs))))
    (Release (value (take 4 (drop 0 fs))))))))))))))))

abbrev message : List ℕ → Message
message [] = Agree 0
message (k ∷ fs) = message_from k fs

of_z_lt : (z : lib.IntN.ℤ) → SFits w64 z → of_z w64 z < 2 ^ 64
of_z_lt z h = omega (arith, ints)

message_of_body : (m : Message) → Typed m → message (body_of m) ≡ m
unfolding bytes_of
message_of_body (Quiet day exposure) h = rw (value_bytes_of 4 day h.0, value_bytes_of 8 (of_z w64 exposure) (of_z_lt exposure h.1), to_z-of_z w64 exposure h.1)
message_of_body (Call day exposure amount) h = rw (value_bytes_of 4 day h.0, value_bytes_of 8 (of_z w64 exposure) (of_z_lt exposure h.1), to_z-of_z w64 exposure h.1, value_bytes_of 8 amount h.2)
message_of_body (Offer day exposure amount) h = rw (value_bytes_of 4 day h.0, value_bytes_of 8 (of_z w64 exposure) (of_z_lt exposure h.1), to_z-of_z w64 exposure h.1, value_bytes_of 8 amount h.2)
message_of_body (Agree day) h = rw (value_bytes_of 4 day h)
message_of_body (Dispute day amount) h = rw (value_bytes_of 4 day h.0, value_bytes_of 8 amount h.1)
message_of_body (Resolve day exposure amount) h = rw (value_bytes_of 4 day h.0, value_bytes_of 8 (of_z w64 exposure) (of_z_lt exposure h.1), to_z-of_z w64 exposure h.1, value_bytes_of 8 amount h.2)
message_of_body (Delivery day lot class face) h = rw (value_bytes_of 4 day h.0, value_bytes_of 8 face h.3)
message_of_body (Substitute lot class face old) h = rw (value_bytes_of 8 face h.2)
message_of_body (Ask day lot) h = rw (value_bytes_of 4 day h.0)
message_of_body (Return lot) h = refl
message_of_body (Decline lot) h = refl
message_of_body (Satisfied day) h = rw (value_bytes_of 4 day h)
message_of_body (Release day) h = rw (value_bytes_of 4 day h)

pub same_message : (m m' : Message) → Typed m → Typed m' → body_of m ≡ body_of m' → m ≡ m'
same_message m m' h h' e = sym (message_of_body m h) ∙ ap message e ∙ message_of_body m' h'

pub body_length : (m : Message) → (0 < length (body_of m)) × (length (body_of m) ≤ 21)
unfolding bytes_of
body_length (Quiet day exposure) = omega arith
body_length m = omega arith

pub well_formed : (m : Message) → Malformed (body_of m) → ⊥
unfolding bytes_of
well_formed (Quiet day exposure) h = h (omega arith, refl)
well_formed m h = h (omega arith, refl)
