use Rattle.std.proofs.Common.{◌≡◌, ◌++◌, drop, string_bytes, encode_utf8_all}
use Rattle.ldap_syntax.specs.Text.{words, joined}
use Rattle.ldap_syntax.proofs.Words.{rest_of}
use Rattle.ldap_syntax.proofs.spacing.push_words.Given as goal

abbrev pub invariant-loop-c : goal.invariant-loop-c
invariant-loop-c l = string_bytes l.out ++ encode_utf8_all (rest_of l.begun l.gap (drop l.c-index l.text)) ≡
    string_bytes l.fn.out ++ encode_utf8_all (joined (words l.text))
