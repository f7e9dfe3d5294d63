use Rattle.std.proofs.Common.{◌≡◌, take}
use Rattle.scripted.specs.Script.{play as plays}
use Rattle.scripted.proofs.line.Line.play.Given as goal

abbrev pub invariant-loop-entry : goal.invariant-loop-entry
invariant-loop-entry l =
    (l.self.frames.items ≡ plays l.self.places l.count (take l.entry-index l.script) l.initial.self.frames.items)
    × (l.self.places ≡ l.initial.self.places)
