use Rattle.std.proofs.Common.{refl}
use Rattle.dir_search.proofs.root_dse.shown_root.Goals as goal

-- the selected user attributes, and then each operational one that is named
pub returns : goal.returns
returns c =
    rw (
      c.made.ensures,
      c.new.ensures.bytes,
      c.in_ok-add_asked-4.ensures,
      c.in_ok-add_asked-3.ensures,
      c.in_ok-add_asked-2.ensures,
      c.in_ok-add_asked.ensures,
      c.deref-2.ensures,
      c.in_ok-suffix.ensures,
      c.in_ok-attributes.ensures,
      c.deref.ensures,
      c.in_ok-shows.ensures,
      c.attributes.ensures,
      c.requires.attributes,
    ) refl
