-- What a link means, and what each call answers and makes of it.
use Rattle.std.specs.Prelude.{◌≡◌, ℕ, suc, ◌+◌, ◌-◌, ◌<◌, ◌≤◌, Bool, true, cond, ◌&&◌, List, [], ◌∷◌, ◌++◌, length, take, drop, Some, None, Ok, Err, Option, Result, ◌==◌, nat_le, nat_lt}
use Rattle.refusal.specs.declared.Refusal.{Refusal}
use Rattle.refusal.specs.declared.Refusal.TheVariants as refusal
use Rattle.refusal.specs.Numbers.{number_of}
use Rattle.message.specs.declared.Message.{Message}
use Rattle.message.specs.Ranges.{unfit_of}
use Rattle.frame.specs.declared.Packet.{Packet}
use Rattle.frame.specs.declared.Packet.TheVariants.{Data, Acknowledgement}
use Rattle.frame.specs.Layout.{last_number, longest_frame}
use Rattle.frame.specs.Packets.{Writes}
use Rattle.link.specs.declared.state.LinkState.{LinkState}
use Rattle.link.specs.declared.state.Standing.{Standing}
use Rattle.link.specs.declared.state.Standing.TheVariants.{Expected, Repeat, Early}
use Rattle.link.specs.Fits.{all_fit, window}

-- the lowest unacknowledged number, the unacknowledged messages from it on, the number expected of the other end
pub record Kept : Type 0 where
  pub base : ℕ
  pub pending : List Message
  pub expected : ℕ

abbrev pub kept : LinkState → Kept
kept l = record { base = l.base; pending = take l.count l.table; expected = l.expected }

-- nothing has gone over the link
abbrev pub opened : Kept
opened = record { base = 1; pending = []; expected = 1 }

-- the number of the next message
abbrev pub next_of : Kept → ℕ
next_of k = k.base + length k.pending

-- the first g messages are forgotten
abbrev pub forgotten : ℕ → Kept → Kept
forgotten g k = record { base = k.base + g; pending = drop g k.pending; expected = k.expected }

-- every number below a is acknowledged
abbrev pub cleared : ℕ → Kept → Kept
cleared a k = forgotten (a - k.base) k

-- the expected number is booked
abbrev pub awaited : Kept → Kept
awaited k = record { base = k.base; pending = k.pending; expected = suc k.expected }

-- a message is kept under the next number
abbrev pub joined : Kept → Message → Kept
joined k m = record { base = k.base; pending = k.pending ++ (m ∷ []); expected = k.expected }

-- the number that a message with this unfit field, if any, is given, or why it is refused: 3, then 16, then 17
abbrev pub admits_by : Option ℕ → Kept → Result ℕ Refusal
admits_by (Some p) k = Err (refusal.Body (next_of k) p)
admits_by None k = cond (nat_le window (length k.pending)) (Err refusal.Unacknowledged) (cond (nat_lt last_number (next_of k)) (Err refusal.LastNumber) (Ok (next_of k)))

abbrev pub admits : Kept → Message → Result ℕ Refusal
admits k m = admits_by (unfit_of m) k

-- a refused message is not kept
abbrev pub admitted_by : Result ℕ Refusal → Kept → Message → Kept
admitted_by (Ok n) k m = joined k m
admitted_by (Err e) k m = k

abbrev pub admitted : Kept → Message → Kept
admitted k m = admitted_by (admits k m) k m

-- what a number is to a link
abbrev pub standing_of : Kept → ℕ → Standing
standing_of k n = cond (n == k.expected) Expected (cond (nat_lt n k.expected) Repeat Early)

-- an acknowledgement above the next number is refused by 4
abbrev pub judges : Kept → ℕ → ℕ → Result Standing Refusal
judges k n a = cond (nat_lt (next_of k) a) (Err (refusal.Acknowledgement n)) (Ok (standing_of k n))

abbrev pub clears : Kept → ℕ → ℕ → Result Unit Refusal
clears k n a = cond (nat_lt (next_of k) a) (Err (refusal.Acknowledgement n)) (Ok tt)

abbrev pub cleared_by : Kept → ℕ → Kept
cleared_by k a = cond (nat_lt (next_of k) a) k (cleared a k)

-- a number is the expected one, and not above the last
abbrev pub advances : Kept → ℕ → Bool
advances k n = n == k.expected && nat_le n last_number

abbrev pub advanced : Kept → ℕ → Kept
advanced k n = cond (advances k n) (awaited k) k

-- the frame of the oldest message, numbered b, or else an acknowledgement alone; x is expected
abbrev pub offers : ℕ → ℕ → List Message → Packet
offers b x [] = Acknowledgement x
offers b x (m ∷ ms) = Data b x m

-- the frame to post
abbrev pub offered : Kept → Packet
offered k = offers k.base k.expected k.pending

-- the frame to post is written, or the buffer is refused by 8 and stays
abbrev pub WritesOffer : Kept → List ℕ → List ℕ → Result ℕ Refusal → Type 0
WritesOffer k before after (Ok len) = Writes (offered k) before after (Ok len)
WritesOffer k before after (Err e) = (number_of e ≡ 8) × (length before < longest_frame) × (after ≡ before)

-- the ranges that every link keeps
pub record Ranged (k : Kept) : Type 0 where
  pub few : length k.pending ≤ window
  pub started : 1 ≤ k.base
  pub ended : next_of k ≤ last_number + 1
  pub awaits : 1 ≤ k.expected
  pub bounded : k.expected ≤ last_number + 1
  pub fit : all_fit k.pending ≡ true
