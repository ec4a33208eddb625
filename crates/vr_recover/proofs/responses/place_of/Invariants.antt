use Rattle.std.proofs.Common.{◌≡◌, ◌+◌, drop}
use Rattle.vr_recover.specs.private.Responses.{place_of}
use Rattle.vr_recover.proofs.responses.place_of.Given as goal

-- so far none was there: the place is past these
abbrev pub invariant-loop-note : goal.invariant-loop-note
invariant-loop-note g l = record {
  counted : l.place ≡ l.note-index;
  further : place_of l.sender l.notes ≡ l.note-index + place_of l.sender (drop l.note-index l.notes);
}
