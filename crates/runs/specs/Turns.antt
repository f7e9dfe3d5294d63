-- What a call and a turn do to an end and to the two carriers beside it, for any book.
use Rattle.std.specs.Prelude.{◌≡◌, ℕ, Bool, true, false, List, take, is_ok, option_map, Some, None, Ok, Err, Option, Result}
use Rattle.refusal.specs.declared.Refusal.{Refusal}
use Rattle.refusal.specs.declared.Refusal.TheVariants.{Misfit}
use Rattle.message.specs.declared.Message.{Message}
use Rattle.frame.specs.declared.Packet.{Packet}
use Rattle.frame.specs.declared.Packet.TheVariants.{Data, Acknowledgement}
use Rattle.frame.specs.Packets.{Reads, written}
use Rattle.carrier.specs.Means.{Means}
use Rattle.carrier.specs.Rules as carrier
use Rattle.law.specs.Link.{App}
use Rattle.link.specs.declared.state.Standing.{Standing}
use Rattle.link.specs.declared.state.Standing.TheVariants.{Expected, Repeat, Early}
use Rattle.link.specs.declared.turned.Received.{Received}
use Rattle.link.specs.declared.turned.Received.TheVariants as received
use Rattle.link.specs.declared.turned.Turned.{Turned}
use Rattle.link.specs.Kept.{Kept, admits, awaited, cleared, clears, joined, judges, offered, opened}

-- what an end means: its link, and the state of its book
pub record Plain (St : Type 0) : Type 0 where
  pub kept : Kept
  pub book : St

-- a message with its number
pub record Entry : Type 0 where
  pub number : ℕ
  pub message : Message

-- the answer of a call and the end after it: None where the call is refused, and then nothing changes
pub record Called (St : Type 0) : Type 0 where
  pub answer : Option Entry
  pub after : Plain St

-- the link admits the drafted message under a number, or refuses it
abbrev pub admitted_as : {St : Type 0} → Result ℕ Refusal → Plain St → Message → St → Called St
admitted_as (Ok n) p m s = record { answer = Some (record { number = n; message = m }); after = record { kept = joined p.kept m; book = s } }
admitted_as (Err e) p m s = record { answer = None; after = p }

-- the book drafts a message, or refuses the call
abbrev pub drafted_as : {St : Type 0} → Option (Message × St) → Plain St → Called St
drafted_as None p = record { answer = None; after = p }
drafted_as (Some d) p = admitted_as (admits p.kept d.0) p d.0 d.1

-- a call of the book
abbrev pub called : {C St : Type 0} → App Message C St → C → Plain St → Called St
called app c p = drafted_as (app.drafts p.book c) p

-- every number below a is acknowledged
abbrev pub clearing : {St : Type 0} → ℕ → Plain St → Plain St
clearing a p = record { kept = cleared a p.kept; book = p.book }

-- the expected message is booked
abbrev pub booking : {C St : Type 0} → App Message C St → Message → Plain St → Plain St
booking app m p = record { kept = awaited p.kept; book = app.books p.book m }

-- what a turn tells of what it collected: nothing, what was received, or why it is refused
abbrev pub Collected : Type 0
Collected = Result (Option Received) Refusal

-- what becomes of a message, by what its number is to the link and whether it fits the book
abbrev pub becomes : Result Standing Refusal → Bool → ℕ → Message → Collected
becomes (Err e) fits n m = Err e
becomes (Ok Expected) true n m = Ok (Some (received.Booked n m))
becomes (Ok Expected) false n m = Err (Misfit n)
becomes (Ok Repeat) fits n m = Ok (Some (received.Repeat n))
becomes (Ok Early) fits n m = Ok (Some (received.Early n))

-- what becomes of an acknowledgement alone
abbrev pub becomes_alone : Result Unit Refusal → Collected
becomes_alone (Ok cleared) = Ok (Some received.Acknowledgement)
becomes_alone (Err e) = Err e

-- what a turn tells of a frame that was read
abbrev pub tells : {C St : Type 0} → App Message C St → Plain St → Packet → Collected
tells app p (Data n a m) = becomes (judges p.kept n a) (app.fits p.book m) n m
tells app p (Acknowledgement a) = becomes_alone (clears p.kept 0 a)

abbrev pub ack_of : Packet → ℕ
ack_of (Data n a m) = a
ack_of (Acknowledgement a) = a

-- what was received, at an end whose numbers below its acknowledgement are cleared
abbrev pub receiving : {C St : Type 0} → App Message C St → Received → Plain St → Plain St
receiving app received.Acknowledgement p = p
receiving app (received.Booked n m) p = booking app m p
receiving app (received.Repeat n) p = p
receiving app (received.Early n) p = p

-- the end after a frame with the acknowledgement a, by what became of it: refused, it changes nothing
abbrev pub after_by : {C St : Type 0} → App Message C St → Collected → ℕ → Plain St → Plain St
after_by app (Err e) a p = p
after_by app (Ok None) a p = p
after_by app (Ok (Some r)) a p = receiving app r (clearing a p)

-- what the result of reading does
abbrev pub HeardAs : {C St : Type 0} → App Message C St → Plain St → Result Packet Refusal → Collected → Plain St → Type 0
HeardAs app p (Ok k) b q = (b ≡ tells app p k) × (q ≡ after_by app b (ack_of k) p)
HeardAs app p (Err e) b q = (b ≡ Err e) × (q ≡ p)

-- what the bytes of a frame do
pub record HeardBytes {C St : Type 0} (app : App Message C St) (p : Plain St) (bs : List ℕ) (b : Collected) (q : Plain St) : Type 0 where
  pub read : Result Packet Refusal
  pub reads : Reads bs read
  pub does : HeardAs app p read b q

-- what a collected frame does, if there is one
abbrev pub HeardFrame : {C St : Type 0} → App Message C St → Plain St → Option (List ℕ) → Collected → Plain St → Type 0
HeardFrame app p None b q = (b ≡ Ok None) × (q ≡ p)
HeardFrame app p (Some bs) b q = HeardBytes app p bs b q

-- a frame leaves a carrier by way of the front of some buffer
pub record Gathers (before : Means) (frame : Option (List ℕ)) (after : Means) : Type 0 where
  pub buffer : List ℕ
  pub filled : List ℕ
  pub answer : Option ℕ
  pub collects : carrier.Collected before buffer (Ok answer) after filled
  pub front : frame ≡ option_map (λ n. take n filled) answer

-- the first half of a turn: a frame is collected and heard
pub record Hears {C St : Type 0} (app : App Message C St) (p : Plain St) (i : Means) (b : Collected) (q : Plain St) (i' : Means) : Type 0 where
  pub frame : Option (List ℕ)
  pub gathers : Gathers i frame i'
  pub hears : HeardFrame app p frame b q

-- the second half: the oldest unacknowledged message, or else an acknowledgement alone, is posted
pub record Posts {St : Type 0} (q : Plain St) (o : Means) (posted : Bool) (o' : Means) : Type 0 where
  pub result : Result Unit Refusal
  pub posts : carrier.Posted o (written (offered q.kept)) result o'
  pub found : posted ≡ is_ok result

-- a turn of an end, with its incoming and its outgoing carrier, and its answer
pub record Turns {C St : Type 0} (app : App Message C St) (p : Plain St) (i o : Means) (r : Turned) (q : Plain St) (i' o' : Means) : Type 0 where
  pub collects : Hears app p i r.collected q i'
  pub posts : Posts q o r.posted o'

-- an end over which nothing has gone
abbrev pub plainly : {St : Type 0} → St → Plain St
plainly s = record { kept = opened; book = s }
