-- What holds over every run, for any book: what it lets fit, what booking does to it, what its calls draft.
use Rattle.std.specs.Prelude.{◌≡◌, ℕ, suc, ◌+◌, ◌*◌, ◌≤◌, Bool, T, List, [], ◌∷◌, map, length, drop, slice_get, IfErr, Some, Ok}
use Rattle.std.specs.List.{All}
use Rattle.refusal.specs.Numbers.{number_of}
use Rattle.message.specs.declared.Message.{Message}
use Rattle.frame.specs.declared.Packet.{Packet}
use Rattle.frame.specs.declared.Packet.TheVariants.{Data, Acknowledgement}
use Rattle.frame.specs.Packets.{Reads}
use Rattle.carrier.specs.Means.{Means}
use Rattle.law.specs.Link.{App}
use Rattle.law.specs.Laws.{Joint, Prefix}
use Rattle.link.specs.declared.turned.Turned.{Turned}
use Rattle.link.specs.Fits.{window}
use Rattle.runs.specs.Turns.{Entry}
use Rattle.runs.specs.Runs.{Reached, Round, Rounds, Side, Turn, World, faults_of, places_of}

-- nothing is unacknowledged at either end
abbrev pub Settled : {St : Type 0} → World St → Type 0
Settled w = (w.secured.plain.kept.pending ≡ []) × (w.pledgor.plain.kept.pending ≡ [])

-- the entries are numbered n, n + 1 and so on
abbrev pub Counted : ℕ → List Entry → Type 0
Counted n [] = Unit {0}
Counted n (e ∷ es) = (e.number ≡ n) × Counted (suc n) es

-- what one end booked begins what the other issued, numbers and messages, and is all of it when nothing is unacknowledged; what is issued is numbered from 1
pub record Agreed {St : Type 0} (w : World St) : Type 0 where
  pub there_prefix : Prefix w.pledgor.booked w.secured.issued
  pub back_prefix : Prefix w.secured.booked w.pledgor.issued
  pub there_all : Settled w → w.pledgor.booked ≡ w.secured.issued
  pub back_all : Settled w → w.secured.booked ≡ w.pledgor.issued
  pub there_counted : Counted 1 w.secured.issued
  pub back_counted : Counted 1 w.pledgor.issued

abbrev pub BookingsBeginWhatWasIssued : (C St : Type 0) → Type 0
BookingsBeginWhatWasIssued C St = (app : App Message C St) (s p : St) (w : World St) → Reached app s p w → Agreed w

abbrev pub messages : List Entry → List Message
messages es = map (λ (e : Entry). e.message) es

-- the message that an end is to book next, if it is issued, fits
pub record Fitting {C St : Type 0} (app : App Message C St) (w : World St) : Type 0 where
  pub there_fits : (m : Message) → slice_get (messages w.secured.issued) (length w.pledgor.booked) ≡ Some m → T (app.fits w.pledgor.plain.book m)
  pub back_fits : (m : Message) → slice_get (messages w.pledgor.issued) (length w.secured.booked) ≡ Some m → T (app.fits w.secured.plain.book m)

-- what is to be booked next always fits
abbrev pub AlwaysFitting : {C St : Type 0} → App Message C St → St → St → Type 0
AlwaysFitting {C} {St} app s p = (w : World St) → Reached app s p w → Fitting app w

-- from a world with so many faults left in both carriers, and with the larger one of so many places, these rounds without another call leave nothing unacknowledged, whatever the faults do in them
abbrev pub SettlesAfter : (C St : Type 0) → ℕ → ℕ → ℕ → Type 0
SettlesAfter C St faults places rounds = (app : App Message C St) (s p : St) → AlwaysFitting app s p →
    (w v : World St) → Reached app s p w → faults_of w ≡ faults → places_of w ≡ places → Rounds app rounds w v → Settled v

-- how many rounds are enough
abbrev pub rounds_enough : ℕ → ℕ → ℕ
rounds_enough faults places = (faults + window) * (2 * places + 1)

abbrev pub RoundsLeaveNothingUnacknowledged : (C St : Type 0) → Type 0
RoundsLeaveNothingUnacknowledged C St = (app : App Message C St) (s p : St) → AlwaysFitting app s p →
    (w v : World St) (n : ℕ) → Reached app s p w → rounds_enough (faults_of w) (places_of w) ≤ n → Rounds app n w v → Settled v

-- from every reached world a round can be made
abbrev pub ARoundCanBeMade : (C St : Type 0) → Type 0
ARoundCanBeMade C St = (app : App Message C St) (s p : St) (w : World St) → Reached app s p w → (v : World St) × Round app w v

-- a turn that refuses its frame does so by 5
abbrev pub MisfitsAlone : Turned → Type 0
MisfitsAlone r = IfErr r.collected (λ e. number_of e ≡ 5)

-- in no reached world does a turn meet a fault of 1 to 4
abbrev pub NoTurnMeetsABrokenFrame : (C St : Type 0) → Type 0
NoTurnMeetsABrokenFrame C St = (app : App Message C St) (s p : St) (w : World St) → Reached app s p w →
    ((r : Turned) (e : Side St) (i o : Means) → Turn app w.secured w.back w.forth r e i o → MisfitsAlone r)
    × ((r : Turned) (e : Side St) (i o : Means) → Turn app w.pledgor w.forth w.back r e i o → MisfitsAlone r)

-- a frame says what its sender may say: a message under the number that it was issued with, and the number that the sender expects or one before it
abbrev pub Said : {St : Type 0} → Side St → Packet → Type 0
Said s (Data n a m) = ((i : ℕ) × (slice_get s.issued i ≡ Some (record { number = n; message = m }))) × (1 ≤ a) × (a ≤ s.plain.kept.expected)
Said s (Acknowledgement a) = (1 ≤ a) × (a ≤ s.plain.kept.expected)

-- bytes that read as such a frame
abbrev pub TellsOf : {St : Type 0} → Side St → List ℕ → Type 0
TellsOf s bs = (p : Packet) × Reads bs (Ok p) × Said s p

-- in every reached world each waiting frame is such bytes
abbrev pub WaitingFramesAreTrue : (C St : Type 0) → Type 0
WaitingFramesAreTrue C St = (app : App Message C St) (s p : St) (w : World St) → Reached app s p w →
    All (TellsOf w.secured) w.forth.waiting × All (TellsOf w.pledgor) w.back.waiting

-- a relation at two ends, with what each issued and the other has not booked
abbrev pub Between : {St : Type 0} → (St → St → List Message → List Message → Type 0) → Side St → Side St → Type 0
Between J a b = J a.plain.book b.plain.book (drop (length b.booked) (messages a.issued)) (drop (length a.booked) (messages b.issued))

-- a relation that issuing and booking in order keep over two queues holds in every reached world, and then what is to be booked next fits
abbrev pub QueuesKeepARelation : (C St : Type 0) → Type 0
QueuesKeepARelation C St = (app : App Message C St) (j : St → St → List Message → List Message → Bool) (s p : St) →
    Joint app (λ a b xs ys. T (j a b xs ys)) → T (j s p [] []) → (w : World St) → Reached app s p w →
    Between (λ a b xs ys. T (j a b xs ys)) w.secured w.pledgor × Fitting app w
