-- Filter texts, values printed: the goal of `put_first` that no tactic closes.
use Rattle.std.proofs.Common.{string_bytes}
use Rattle.filter_text.proofs.Values.{a_character}
use Rattle.filter_text.proofs.printing_value.put_first.Goals as goal

pub returns-in_ok-push_str-in-Some-clause-ok : goal.returns-in_ok-push_str-in-Some-clause-ok
returns-in_ok-push_str-in-Some-clause-ok c =
    let e = c.in-Some.ensures in
    a_character (string_bytes c.args.out.now) (string_bytes c.push_str.new.self) c.in-Some.text.now c.args.octets.now
    e.0 e.1 e.2 e.3 c.in_ok-push_str-in-Some.ensures.bytes
