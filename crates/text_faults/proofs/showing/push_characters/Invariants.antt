use Rattle.std.proofs.Common.{◌≡◌, ◌++◌, drop, flat_map, string_bytes}
use Rattle.text_faults.specs.Words.{character_shown}
use Rattle.text_faults.proofs.showing.push_characters.Given as goal

abbrev pub invariant-loop-character : goal.invariant-loop-character
invariant-loop-character l =
    string_bytes l.sentence ++ flat_map character_shown (drop l.character-index l.characters) ≡ string_bytes
    l.fn.sentence ++ flat_map character_shown l.characters
