-- What holds over every run of the link, for any messages and any book above it.
use Rattle.std.specs.Prelude.{◌≡◌, ℕ, suc, ◌+◌, ◌*◌, ◌≤◌, max, Bool, T, Some, List, [], ◌∷◌, ◌++◌, map, length, drop, slice_get}
use Rattle.std.specs.List.{All}
use Rattle.law.specs.Link.{Acts, App, Chan, Collected, End, Frame, Reached, Round, Rounds, World, ack_of, alone, message, next, window}

-- the one list begins the other
abbrev pub Prefix : {M : Type 0} → List M → List M → Type 0
Prefix {M} xs ys = (rest : List M) × (xs ++ rest ≡ ys)

-- nothing is unacknowledged at either end
abbrev pub Settled : {M St : Type 0} → World M St → Type 0
Settled w = (w.secured.pending ≡ []) × (w.pledgor.pending ≡ [])

-- what one end booked begins what the other issued, and is all of it when nothing is unacknowledged
pub record Agreed {M St : Type 0} (w : World M St) : Type 0 where
  pub there_prefix : Prefix w.pledgor.booked w.secured.issued
  pub back_prefix : Prefix w.secured.booked w.pledgor.issued
  pub there_all : Settled w → w.pledgor.booked ≡ w.secured.issued
  pub back_all : Settled w → w.secured.booked ≡ w.pledgor.issued

-- in every reached world bookings begin what was issued
abbrev pub BookingsBeginWhatWasIssued : (M C St : Type 0) → Type 0
BookingsBeginWhatWasIssued M C St = (app : App M C St) (s p : St) (w : World M St) → Reached app s p w → Agreed w

-- the faults left in both channels
abbrev pub faults_of : {M St : Type 0} → World M St → ℕ
faults_of w = w.forth.faults + w.back.faults

-- the larger number of places
abbrev pub places_of : {M St : Type 0} → World M St → ℕ
places_of w = max w.forth.places w.back.places

-- the message that an end is to book next, if it is issued, fits
pub record Fitting {M C St : Type 0} (app : App M C St) (w : World M St) : Type 0 where
  pub there_fits : (m : M) → slice_get w.secured.issued (length w.pledgor.booked) ≡ Some m → T (app.fits w.pledgor.state m)
  pub back_fits : (m : M) → slice_get w.pledgor.issued (length w.secured.booked) ≡ Some m → T (app.fits w.secured.state m)

-- if what is to be booked next always fits, so many rounds or more without another call leave nothing unacknowledged, whatever the faults do in them
abbrev pub RoundsLeaveNothingUnacknowledged : (M C St : Type 0) → Type 0
RoundsLeaveNothingUnacknowledged M C St = (app : App M C St) (s p : St) → ((w : World M St) → Reached app s p w → Fitting app w) →
    (w v : World M St) (n : ℕ) → Reached app s p w → (faults_of w + window) * (2 * places_of w + 1) ≤ n → Rounds app n w v → Settled v

-- from every reached world a round can be made
abbrev pub ARoundCanBeMade : (M C St : Type 0) → Type 0
ARoundCanBeMade M C St = (app : App M C St) (s p : St) (w : World M St) → Reached app s p w → (v : World M St) × Round app w v

-- a message frame carries the message of its number
abbrev pub Carries : {M : Type 0} → List M → Frame M → Type 0
Carries is (message n k m) = (i : ℕ) × (n ≡ suc i) × (slice_get is i ≡ Some m)
Carries is (alone k) = Unit {0}

-- a frame acknowledges no more than x
abbrev pub Upto : {M : Type 0} → ℕ → Frame M → Type 0
Upto x f = ack_of f ≤ x

-- every waiting frame carries what its sender issued under its number, and acknowledges no more than its sender expects
pub record Truthful {M St : Type 0} (sender : End M St) (c : Chan M) : Type 0 where
  pub carried : All (Carries sender.issued) c.waiting
  pub acknowledged : All (Upto sender.expected) c.waiting

-- in every reached world both channels hold only such frames, and no collect finds an acknowledgement above the collecting end's next number
pub record Sincere {M St : Type 0} (w : World M St) : Type 0 where
  pub there_true : Truthful w.secured w.forth
  pub back_true : Truthful w.pledgor w.back
  pub there_issued : (f : Frame M) (c : Chan M) → Collected w.forth (Some f) c → ack_of f ≤ next w.pledgor
  pub back_issued : (f : Frame M) (c : Chan M) → Collected w.back (Some f) c → ack_of f ≤ next w.secured

abbrev pub WaitingFramesAreTrue : (M C St : Type 0) → Type 0
WaitingFramesAreTrue M C St = (app : App M C St) (s p : St) (w : World M St) → Reached app s p w → Sincere w

-- A relation between two states and the messages under way in each direction, oldest first, that issuing and booking keep.
-- It speaks of two queues alone: of no channel, number, frame or fault.
pub record Joint {M C St : Type 0} (app : App M C St) (J : St → St → List M → List M → Type 0) : Type 0 where
  pub there_issue : {s s' p : St} {xs ys : List M} (c : C) (m : M) → J s p xs ys → app.drafts s c ≡ Some (m, s') → J s' p (xs ++ (m ∷ [])) ys
  pub back_issue : {s p p' : St} {xs ys : List M} (c : C) (m : M) → J s p xs ys → app.drafts p c ≡ Some (m, p') → J s p' xs (ys ++ (m ∷ []))
  pub there_fit : {s p : St} {xs ys : List M} (m : M) → J s p (m ∷ xs) ys → T (app.fits p m)
  pub back_fit : {s p : St} {xs ys : List M} (m : M) → J s p xs (m ∷ ys) → T (app.fits s m)
  pub there_book : {s p : St} {xs ys : List M} (m : M) → J s p (m ∷ xs) ys → J s (app.books p m) xs ys
  pub back_book : {s p : St} {xs ys : List M} (m : M) → J s p xs (m ∷ ys) → J (app.books s m) p xs ys

-- the relation at two ends, with what each issued and the other has not booked
abbrev pub Between : {M St : Type 0} → (St → St → List M → List M → Type 0) → End M St → End M St → Type 0
Between J a b = J a.state b.state (drop (length b.booked) a.issued) (drop (length a.booked) b.issued)

-- such a relation holds in every reached world, and then what is to be booked next fits
abbrev pub QueuesKeepARelation : (M C St : Type 0) → Type 0
QueuesKeepARelation M C St = (app : App M C St) (j : St → St → List M → List M → Bool) (s p : St) →
    Joint app (λ a b xs ys. T (j a b xs ys)) → T (j s p [] []) → (w : World M St) → Reached app s p w →
    Between (λ a b xs ys. T (j a b xs ys)) w.secured w.pledgor × Fitting app w

-- acts on the written forms of frames are the written forms of acts on the frames
abbrev pub ActsOnWrittenFrames : (A B : Type 0) → Type 0
ActsOnWrittenFrames A B = (write : A → B) (p n : ℕ) (ws : List A) (vs : List B) → Acts p n (map write ws) vs → (us : List A) × (map write us ≡ vs) × Acts p n ws us
