-- Reading has one answer, reading and writing undo each other, and different frames have different bytes.
use Rattle.std.specs.Prelude.{◌≡◌, ℕ, ◌≤◌, List, [], ◌∷◌, ◌++◌, length, take, drop, Ok, Err, Result}
use Rattle.refusal.specs.declared.Refusal.{Refusal}
use Rattle.message.specs.Bodies.{body_of}
use Rattle.frame.specs.declared.Frame.{Frame}
use Rattle.frame.specs.declared.Frame.TheVariants as frame
use Rattle.frame.specs.declared.Packet.{Packet}
use Rattle.frame.specs.declared.Packet.TheVariants.{Data, Acknowledgement}
use Rattle.frame.specs.Layout.{longest_frame}
use Rattle.frame.specs.Packets.{Reads, ReadsFrame, Sendable, Writes, written}

-- any bytes have one answer at most, refusals included
abbrev pub ReadsOnce : Type 0
ReadsOnce = (bs : List ℕ) (r s : Result Packet Refusal) → Reads bs r → Reads bs s → r ≡ s

-- a frame that is fit to send reads as itself
abbrev pub ReadsBack : Type 0
ReadsBack = (p : Packet) (r : Result Packet Refusal) → Sendable p → Reads (written p) r → r ≡ Ok p

-- what a frame says, its body by the bytes that it holds
pub data Said : Type 0 where
  data_with : ℕ → ℕ → List ℕ → Said
  acknowledgement : ℕ → Said

abbrev pub said : Result Frame Refusal → Result Said Refusal
said (Ok (frame.Data n a body)) = Ok (data_with n a body.now)
said (Ok (frame.Acknowledgement a)) = Ok (acknowledgement a)
said (Err e) = Err e

abbrev pub said_by : Packet → Said
said_by (Data n a m) = data_with n a (body_of m)
said_by (Acknowledgement a) = acknowledgement a

-- the same two of a frame whose body is a part of the bytes
abbrev pub FramesReadOnce : Type 0
FramesReadOnce = (bs : List ℕ) (r s : Result Frame Refusal) → ReadsFrame bs r → ReadsFrame bs s → said r ≡ said s

abbrev pub FramesReadBack : Type 0
FramesReadBack = (p : Packet) (r : Result Frame Refusal) → Sendable p → ReadsFrame (written p) r → said r ≡ Ok (said_by p)

-- what writing leaves in the buffer's front reads as what was written
abbrev pub WrittenReadsBack : Type 0
WrittenReadsBack =
    (p : Packet) (before after : List ℕ) (len : ℕ) (r : Result Packet Refusal)
    → Writes p before after (Ok len) → Reads (take len after) r → r ≡ Ok p

-- bytes that read are to the byte those that writing what was read leaves
abbrev pub WritesAgain : Type 0
WritesAgain =
    (bs : List ℕ) (p : Packet) (before after : List ℕ) (w : Result ℕ Refusal)
    → Reads bs (Ok p) → longest_frame ≤ length before → Writes p before after w
    → (w ≡ Ok (length bs)) × (after ≡ bs ++ drop (length bs) before)

-- two different frames that are fit to send never have the same bytes
abbrev pub FramesDiffer : Type 0
FramesDiffer = (p q : Packet) → Sendable p → Sendable q → written p ≡ written q → p ≡ q

-- writing has one answer at most, and leaves one buffer
abbrev pub WritesOnce : Type 0
WritesOnce =
    (p : Packet) (before after later : List ℕ) (v w : Result ℕ Refusal)
    → Writes p before after v → Writes p before later w → (v ≡ w) × (after ≡ later)

-- the frame that agrees to day 7, as message 1, with 1 as the next number expected
abbrev pub agree_to_seven : List ℕ
agree_to_seven = 0x04 ∷ 0x00 ∷ 0x00 ∷ 0x00 ∷ 0x07 ∷ 0x00 ∷ 0x00 ∷ 0x00 ∷ 0x01 ∷ 0x00 ∷ 0x00 ∷ 0x00 ∷ 0x01 ∷ 0x44 ∷ 0x01 ∷ 0x00 ∷ 0x11 ∷ []
