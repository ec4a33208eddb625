-- What search doesn't prove of `syntax_of`: what it returns, by lemmas of `Tables`.
use Rattle.ldap_words.proofs.Tables.{first, later}
use Rattle.ldap_words.proofs.rules_by_name.syntax_of.Goals as goal

pub returns-then-is_oid : goal.returns-then-is_oid
returns-then-is_oid c = first _ _ _ c.if-is_oid.ensures

pub returns-then-is_oid-2 : goal.returns-then-is_oid-2
returns-then-is_oid-2 c = later _ _ _ c.if-is_oid.ensures (first _ _ _ c.if-is_oid-2.ensures)

pub returns-then-is_oid-3 : goal.returns-then-is_oid-3
returns-then-is_oid-3 c = later _ _ _ c.if-is_oid.ensures (later _ _ _ c.if-is_oid-2.ensures
    (first _ _ _ c.if-is_oid-3.ensures))

pub returns-then-is_oid-4 : goal.returns-then-is_oid-4
returns-then-is_oid-4 c = later _ _ _ c.if-is_oid.ensures (later _ _ _ c.if-is_oid-2.ensures
    (later _ _ _ c.if-is_oid-3.ensures (first _ _ _ c.if-is_oid-4.ensures)))

pub returns-then-is_oid-5 : goal.returns-then-is_oid-5
returns-then-is_oid-5 c =
    later _ _ _ c.if-is_oid.ensures (later _ _ _ c.if-is_oid-2.ensures (later _ _ _ c.if-is_oid-3.ensures
    (later _ _ _ c.if-is_oid-4.ensures (first _ _ _ c.if-is_oid-5.ensures))))

pub returns-else-is_oid-5 : goal.returns-else-is_oid-5
returns-else-is_oid-5 c =
    later _ _ _ c.if-is_oid.ensures (later _ _ _ c.if-is_oid-2.ensures (later _ _ _ c.if-is_oid-3.ensures
    (later _ _ _ c.if-is_oid-4.ensures (later _ _ _ c.if-is_oid-5.ensures c.other_syntax.ensures))))
