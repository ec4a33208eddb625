-- What lies in memory, as plain values: the fields of a note, and what a journal tells.
use Rattle.log_journal.specs.Fields.{Fields}
use Rattle.log_journal.specs.Told.{Told}
use Rattle.log_journal.specs.declared.fields.Fields as memory
use Rattle.log_journal.specs.declared.told.Told as held

-- the fields
abbrev pub fields_view : memory.Fields → Fields
fields_view f = record {
  kind = f.kind;
  first = f.first;
  second = f.second;
  third = f.third;
  fourth =
      f.fourth;
  fifth = f.fifth;
  rest = f.rest.now;
}

-- what is told
abbrev pub told_view : held.Told → Told
told_view t = record {
  cluster = t.cluster;
  index = t.index;
  count = t.count;
  restarts = t.restarts;
  kept = record {
    view = t.view_number;
    last = t.last_normal_view;
    log = t.log;
    k = t.commit_number;
    staged =
        t.staged;
    whole = t.is_whole;
  };
}
