use Rattle.std.proofs.Common.{◌≡◌, Some, length, take}
use Rattle.std.specs.List.{FoldsTo}
use Rattle.words.specs.Words.{Calls}
use Rattle.words.proofs.Words.fill.Given as goal

abbrev pub invariant-loop-place : goal.invariant-loop-place
invariant-loop-place g l = record {
  callable : goal.F-IsAlwaysCallable g l.read;
  all : length l.places ≡ length l.fn.places;
  read : FoldsTo (λ s x t. Calls (goal.F-post g l.read) s (Some x) t) l.initial.self (take l.place-index l.places) l.self;
}
