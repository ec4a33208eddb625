use Rattle.std.proofs.Common.{◌≡◌, ◌≢◌, ℕ, Err, refl, subst, sym, ap, ◌∙◌, arith, rules}
use Rattle.log_journal.specs.journal.Device.{LeavesOnly as LogLeavesOnly}
use Rattle.log_journal.specs.journal.Frames.{recorded}
use Rattle.view_store.specs.declared.fault.ViewStoreError.TheVariants.{DeviceFailed}
use Rattle.dir_node.specs.Faults.{IsEarly}
use Rattle.dir_node.specs.Logged.{ReadsAsBefore}
use Rattle.dir_node.specs.declared.error.NodeError.{NodeError}
use Rattle.dir_node.specs.declared.error.NodeError.TheVariants.{Store}
use Rattle.view_store.specs.Slots.{own, found, IsWellPlaced}
use Rattle.dir_node.specs.private.Ways.{start_by}
use Rattle.dir_node.proofs.Restarts.{any_err, cleared_alone, early_clear, this_err, not_called, not_early, notes_left, only_read, read_alone, restart_left, restart_told, why_no_restart}
use Rattle.dir_node.proofs.Starts.{put_first, way_is}
use Rattle.dir_node.proofs.restarting.start_over.Goals as goal

-- the pair was not read
pub returns-in_err-pair-clause-any_moment : goal.returns-in_err-pair-clause-any_moment
returns-in_err-pair-clause-any_moment g c = λ placed.
    let d = c.args.views.now.device in
    let j = c.args.journal.now.device in
    let o = c.args.owner in
    only_read g.D.Device.seen g.D.Device.may_leave g.D.Device.moment g.D.Device.left_since d c.load.new.self.device o
    (recorded (g.J.Device.seen j)) (c.load.ensures.any_moment c.requires.new)

pub returns-in_err-pair-clause-any_log_moment : goal.returns-in_err-pair-clause-any_log_moment
returns-in_err-pair-clause-any_log_moment g c =
    let d = c.args.views.now.device in
    let j = c.args.journal.now.device in
    let o = c.args.owner in
    read_alone g.J.Device.seen g.J.Device.may_leave g.J.Device.moment g.J.Device.left_since j j o
    (found o.cluster (g.D.Device.seen d)) (not_called g.J.Device.seen g.J.Device.may_leave g.J.Device.moment
    g.J.Device.left_since j (g.met.J.Device.only_now j))

pub returns-in_err-pair-clause-log_same : goal.returns-in_err-pair-clause-log_same
returns-in_err-pair-clause-log_same g c = any_err c.from_residual.result (λ (x : NodeError). IsEarly x →
    LogLeavesOnly g.J.Device.moment g.J.Device.left_since c.args.journal.now.device c.args.journal.now.device
    (ReadsAsBefore g.J.Device.seen g.J.Device.may_leave c.args.journal.now.device))
    (λ e early. not_called g.J.Device.seen g.J.Device.may_leave g.J.Device.moment g.J.Device.left_since
    c.args.journal.now.device (g.met.J.Device.only_now c.args.journal.now.device))

-- it has no next start
pub returns-then-pair-clause-any_moment : goal.returns-then-pair-clause-any_moment
returns-then-pair-clause-any_moment g c = λ placed.
    let d = c.args.views.now.device in
    let j = c.args.journal.now.device in
    let o = c.args.owner in
    only_read g.D.Device.seen g.D.Device.may_leave g.D.Device.moment g.D.Device.left_since d c.load.new.self.device o
    (recorded (g.J.Device.seen j)) (c.load.ensures.any_moment c.requires.new)

pub returns-then-pair-clause-any_log_moment : goal.returns-then-pair-clause-any_log_moment
returns-then-pair-clause-any_log_moment g c =
    let d = c.args.views.now.device in
    let j = c.args.journal.now.device in
    let o = c.args.owner in
    read_alone g.J.Device.seen g.J.Device.may_leave g.J.Device.moment g.J.Device.left_since j j o
    (found o.cluster (g.D.Device.seen d)) (not_called g.J.Device.seen g.J.Device.may_leave g.J.Device.moment
    g.J.Device.left_since j (g.met.J.Device.only_now j))

-- the journal was read, and nothing was written
pub returns-in_err-way-clause-any_moment : goal.returns-in_err-way-clause-any_moment
returns-in_err-way-clause-any_moment g c = λ placed.
    let d = c.args.views.now.device in
    let j = c.args.journal.now.device in
    let o = c.args.owner in
    only_read g.D.Device.seen g.D.Device.may_leave g.D.Device.moment g.D.Device.left_since d c.load.new.self.device o
    (recorded (g.J.Device.seen j)) (c.load.ensures.any_moment c.requires.new)

pub returns-in_err-way-clause-any_log_moment : goal.returns-in_err-way-clause-any_log_moment
returns-in_err-way-clause-any_log_moment g c =
    let d = c.args.views.now.device in
    let j = c.args.journal.now.device in
    let o = c.args.owner in
    read_alone g.J.Device.seen g.J.Device.may_leave g.J.Device.moment g.J.Device.left_since j
    c.find_way.new.journal.device o (found o.cluster (g.D.Device.seen d)) c.find_way.ensures.any_moment

pub returns-in_err-made-clause-any_moment : goal.returns-in_err-made-clause-any_moment
returns-in_err-made-clause-any_moment g c = λ placed.
    let d = c.args.views.now.device in
    let j = c.args.journal.now.device in
    let o = c.args.owner in
    only_read g.D.Device.seen g.D.Device.may_leave g.D.Device.moment g.D.Device.left_since d c.load.new.self.device o
    (recorded (g.J.Device.seen j)) (c.load.ensures.any_moment c.requires.new)

pub returns-in_err-made-clause-any_log_moment : goal.returns-in_err-made-clause-any_log_moment
returns-in_err-made-clause-any_log_moment g c =
    let d = c.args.views.now.device in
    let j = c.args.journal.now.device in
    let o = c.args.owner in
    read_alone g.J.Device.seen g.J.Device.may_leave g.J.Device.moment g.J.Device.left_since j
    c.find_way.new.journal.device o (found o.cluster (g.D.Device.seen d)) c.find_way.ensures.any_moment

-- what stands behind the strings wasn't cleared
pub returns-in_err-clear_log-clause-any_moment : goal.returns-in_err-clear_log-clause-any_moment
returns-in_err-clear_log-clause-any_moment g c = λ placed.
    let d = c.args.views.now.device in
    let j = c.args.journal.now.device in
    let o = c.args.owner in
    only_read g.D.Device.seen g.D.Device.may_leave g.D.Device.moment g.D.Device.left_since d c.load.new.self.device o
    (recorded (g.J.Device.seen j)) (c.load.ensures.any_moment c.requires.new)

pub returns-in_err-clear_log-clause-any_log_moment : goal.returns-in_err-clear_log-clause-any_log_moment
returns-in_err-clear_log-clause-any_log_moment g c =
    let d = c.args.views.now.device in
    let j = c.args.journal.now.device in
    let o = c.args.owner in
    read_alone g.J.Device.seen g.J.Device.may_leave g.J.Device.moment g.J.Device.left_since j
    c.clear_log.new.journal.device o (found o.cluster (g.D.Device.seen d))
    (cleared_alone g.J.Device.seen g.J.Device.may_leave g.J.Device.moment g.J.Device.left_since j
    c.find_way.new.journal.device c.clear_log.new.journal.device c.find_way.ensures.seen
    c.find_way.ensures.any_moment c.clear_log.ensures.any_moment)

pub returns-in_err-clear_log-clause-log_same : goal.returns-in_err-clear_log-clause-log_same
returns-in_err-clear_log-clause-log_same g c =
    let j = c.args.journal.now.device in
    any_err c.from_residual-in_err-clear_log.result (λ (x : NodeError). IsEarly x → LogLeavesOnly g.J.Device.moment
    g.J.Device.left_since j c.clear_log.new.journal.device (ReadsAsBefore g.J.Device.seen g.J.Device.may_leave j))
    (λ e early.
    (cleared_alone g.J.Device.seen g.J.Device.may_leave g.J.Device.moment g.J.Device.left_since j
    c.find_way.new.journal.device c.clear_log.new.journal.device c.find_way.ensures.seen
    c.find_way.ensures.any_moment c.clear_log.ensures.any_moment))

pub returns-in_err-clear_log-clause-early_same : goal.returns-in_err-clear_log-clause-early_same
returns-in_err-clear_log-clause-early_same g c =
    this_err c.from_residual-in_err-clear_log.result c.in_err-clear_log.field-0.0 (λ (x : NodeError). IsEarly x →
    g.J.Device.seen c.clear_log.new.journal.device ≡ g.J.Device.seen c.args.journal.now.device) (search rules)
    (λ early. c.in_err-clear_log.ensures.no_memory (ap (λ (x : NodeError). Err x)
    (early_clear c.in_err-clear_log.field-0.0 c.in_err-clear_log.ensures.causes early)) ∙ c.find_way.ensures.seen)

-- nothing was written
pub returns-in_err-pair-clause-early_same : goal.returns-in_err-pair-clause-early_same
returns-in_err-pair-clause-early_same g c = any_err c.from_residual.result (λ (x : NodeError). IsEarly x →
    g.J.Device.seen c.args.journal.now.device ≡ g.J.Device.seen c.args.journal.now.device) (λ e early. refl)

pub returns-in_err-way-clause-early_same : goal.returns-in_err-way-clause-early_same
returns-in_err-way-clause-early_same g c = any_err c.from_residual-in_err-way.result (λ (x : NodeError). IsEarly x →
    g.J.Device.seen c.find_way.new.journal.device ≡ g.J.Device.seen c.args.journal.now.device)
    (λ e early. c.find_way.ensures.seen)

pub returns-in_err-made-clause-early_same : goal.returns-in_err-made-clause-early_same
returns-in_err-made-clause-early_same g c = any_err c.from_residual-in_err-made.result (λ (x : NodeError). IsEarly x →
    g.J.Device.seen c.find_way.new.journal.device ≡ g.J.Device.seen c.args.journal.now.device)
    (λ e early. c.find_way.ensures.seen)

pub returns-in_err-store_start-clause-early_same : goal.returns-in_err-store_start-clause-early_same
returns-in_err-store_start-clause-early_same g c =
    this_err c.from_residual-in_err-store_start.result c.in_err-store_start.field-0.0 (λ (x : NodeError). IsEarly x →
    g.J.Device.seen c.store_start.new.journal.device ≡ g.J.Device.seen c.args.journal.now.device) (search rules)
    (λ early. absurd (not_early c.in_err-store_start.field-0.0 c.in_err-store_start.ensures.causes early))

-- the notes and the pair were written, or one of them wasn't
pub store_start-requires-clause-settled : goal.store_start-requires-clause-settled
store_start-requires-clause-settled g c =
    λ x left. c.in_ok-pair.ensures.durable x left ∙ sym c.load.ensures.seen

pub returns-in_err-store_start-clause-any_moment : goal.returns-in_err-store_start-clause-any_moment
returns-in_err-store_start-clause-any_moment g c =
    let d = c.args.views.now.device in
    let j = c.args.journal.now.device in
    let o = c.args.owner in
    let pair = c.in_ok-pair.pair in
    let strings = recorded (g.J.Device.seen j) in
    let way = c.in_ok-way.way in
    let is : found o.cluster (g.D.Device.seen d) ≡ own pair = subst (λ (k : ℕ). found k (g.D.Device.seen d) ≡
    own pair) c.requires.cluster c.in_ok-pair.ensures.found in
    restart_left g.D.Device.seen g.D.Device.may_leave g.D.Device.moment g.D.Device.left_since d
    c.store_start.new.views.device c.load.new.self o pair strings (start_by o pair way) c.in_ok-made.made.pair
    (c.load.ensures.cluster ∙ c.requires.cluster) is c.load.ensures.seen (c.load.ensures.any_moment c.requires.new)
    (way_is o pair strings way c.in_ok-way.ensures.way) c.in_ok-made.ensures.made.pair c.store_start.ensures.any_moment

pub returns-in_err-store_start-clause-any_log_moment : goal.returns-in_err-store_start-clause-any_log_moment
returns-in_err-store_start-clause-any_log_moment g c =
    let d = c.args.views.now.device in
    let j = c.args.journal.now.device in
    let o = c.args.owner in
    let pair = c.in_ok-pair.pair in
    let strings = recorded (g.J.Device.seen j) in
    let way = c.in_ok-way.way in
    let is : found o.cluster (g.D.Device.seen d) ≡ own pair = subst (λ (k : ℕ). found k (g.D.Device.seen d) ≡
    own pair) c.requires.cluster c.in_ok-pair.ensures.found in
    notes_left g.J.Device.seen g.J.Device.may_leave g.J.Device.moment g.J.Device.left_since j
    c.clear_log.new.journal.device c.store_start.new.journal.device o (found o.cluster (g.D.Device.seen d)) pair
    (start_by o pair way) c.in_ok-made.made.batch is (way_is o pair strings way c.in_ok-way.ensures.way)
    (put_first (start_by o pair way).notes c.in_ok-made.made.batch c.in_ok-made.ensures.made.notes)
    (c.in_ok-clear_log.ensures.strings ∙ ap recorded c.find_way.ensures.seen) (cleared_alone g.J.Device.seen
    g.J.Device.may_leave g.J.Device.moment g.J.Device.left_since j c.find_way.new.journal.device
    c.clear_log.new.journal.device c.find_way.ensures.seen c.find_way.ensures.any_moment
    c.clear_log.ensures.any_moment) c.store_start.ensures.any_log_moment

pub returns-in_err-store_start-clause-same : goal.returns-in_err-store_start-clause-same
returns-in_err-store_start-clause-same g c =
    this_err c.from_residual-in_err-store_start.result c.in_err-store_start.field-0.0
    (λ (x : NodeError). x ≢ Store DeviceFailed → g.D.Device.seen c.store_start.new.views.device ≡ g.D.Device.seen
    c.args.views.now.device) (search rules) (λ other. c.in_err-store_start.ensures.same other ∙ c.load.ensures.seen)

pub returns-in_err-store_start-clause-log_same : goal.returns-in_err-store_start-clause-log_same
returns-in_err-store_start-clause-log_same g c =
    this_err c.from_residual-in_err-store_start.result c.in_err-store_start.field-0.0 (λ (x : NodeError). IsEarly x →
    LogLeavesOnly g.J.Device.moment g.J.Device.left_since c.args.journal.now.device
    c.store_start.new.journal.device (ReadsAsBefore g.J.Device.seen g.J.Device.may_leave
    c.args.journal.now.device)) (search rules)
    (λ early. absurd (not_early c.in_err-store_start.field-0.0 c.in_err-store_start.ensures.causes early))

pub returns-in_err-store_start-clause-no_pair : goal.returns-in_err-store_start-clause-no_pair
returns-in_err-store_start-clause-no_pair g c =
    let d = c.args.views.now.device in
    let j = c.args.journal.now.device in
    let o = c.args.owner in
    let pair = c.in_ok-pair.pair in
    let strings = recorded (g.J.Device.seen j) in
    let way = c.in_ok-way.way in
    let is : found o.cluster (g.D.Device.seen d) ≡ own pair = subst (λ (k : ℕ). found k (g.D.Device.seen d) ≡
    own pair) c.requires.cluster c.in_ok-pair.ensures.found in
    λ refused. why_no_restart o pair c.in_ok-made.made.pair strings way (g.D.Device.seen d)
    (g.D.Device.seen c.load.new.self.device) c.in_ok-way.ensures.way c.in_ok-made.ensures.made.pair is
    (omega arith) c.load.ensures.seen (c.in_err-store_start.ensures.no_pair (search rules))

pub returns-clause-made : goal.returns-clause-made
returns-clause-made g c =
    let d = c.args.views.now.device in
    let j = c.args.journal.now.device in
    let o = c.args.owner in
    let pair = c.in_ok-pair.pair in
    let strings = recorded (g.J.Device.seen j) in
    let way = c.in_ok-way.way in
    let is : found o.cluster (g.D.Device.seen d) ≡ own pair = subst (λ (k : ℕ). found k (g.D.Device.seen d) ≡
    own pair) c.requires.cluster c.in_ok-pair.ensures.found in
    record {
      former = pair;
      found = is;
      start = start_by o pair way;
      is = way_is o pair strings way
          c.in_ok-way.ensures.way;
      made = c.in_ok-made.ensures.made;
    }

pub returns-clause-placed : goal.returns-clause-placed
returns-clause-placed g c =
    λ placed. c.in_ok-store_start.ensures.placed (subst IsWellPlaced (sym c.load.ensures.seen) placed)

pub returns-clause-told : goal.returns-clause-told
returns-clause-told g c =
    let d = c.args.views.now.device in
    let j = c.args.journal.now.device in
    let o = c.args.owner in
    let pair = c.in_ok-pair.pair in
    let strings = recorded (g.J.Device.seen j) in
    let way = c.in_ok-way.way in
    let is : found o.cluster (g.D.Device.seen d) ≡ own pair = subst (λ (k : ℕ). found k (g.D.Device.seen d) ≡
    own pair) c.requires.cluster c.in_ok-pair.ensures.found in
    restart_told o pair strings (recorded (g.J.Device.seen c.clear_log.new.journal.device))
    (recorded (g.J.Device.seen c.store_start.new.journal.device)) way c.in_ok-made.made c.in_ok-way.ensures.way
    c.in_ok-made.ensures.made (c.in_ok-clear_log.ensures.strings ∙ ap recorded c.find_way.ensures.seen)
    c.in_ok-store_start.ensures.strings

pub returns-clause-any_moment : goal.returns-clause-any_moment
returns-clause-any_moment g c =
    let d = c.args.views.now.device in
    let j = c.args.journal.now.device in
    let o = c.args.owner in
    let pair = c.in_ok-pair.pair in
    let strings = recorded (g.J.Device.seen j) in
    let way = c.in_ok-way.way in
    let is : found o.cluster (g.D.Device.seen d) ≡ own pair = subst (λ (k : ℕ). found k (g.D.Device.seen d) ≡
    own pair) c.requires.cluster c.in_ok-pair.ensures.found in
    restart_left g.D.Device.seen g.D.Device.may_leave g.D.Device.moment g.D.Device.left_since d
    c.store_start.new.views.device c.load.new.self o pair strings (start_by o pair way) c.in_ok-made.made.pair
    (c.load.ensures.cluster ∙ c.requires.cluster) is c.load.ensures.seen (c.load.ensures.any_moment c.requires.new)
    (way_is o pair strings way c.in_ok-way.ensures.way) c.in_ok-made.ensures.made.pair c.store_start.ensures.any_moment

pub returns-clause-any_log_moment : goal.returns-clause-any_log_moment
returns-clause-any_log_moment g c =
    let d = c.args.views.now.device in
    let j = c.args.journal.now.device in
    let o = c.args.owner in
    let pair = c.in_ok-pair.pair in
    let strings = recorded (g.J.Device.seen j) in
    let way = c.in_ok-way.way in
    let is : found o.cluster (g.D.Device.seen d) ≡ own pair = subst (λ (k : ℕ). found k (g.D.Device.seen d) ≡
    own pair) c.requires.cluster c.in_ok-pair.ensures.found in
    notes_left g.J.Device.seen g.J.Device.may_leave g.J.Device.moment g.J.Device.left_since j
    c.clear_log.new.journal.device c.store_start.new.journal.device o (found o.cluster (g.D.Device.seen d)) pair
    (start_by o pair way) c.in_ok-made.made.batch is (way_is o pair strings way c.in_ok-way.ensures.way)
    (put_first (start_by o pair way).notes c.in_ok-made.made.batch c.in_ok-made.ensures.made.notes)
    (c.in_ok-clear_log.ensures.strings ∙ ap recorded c.find_way.ensures.seen) (cleared_alone g.J.Device.seen
    g.J.Device.may_leave g.J.Device.moment g.J.Device.left_since j c.find_way.new.journal.device
    c.clear_log.new.journal.device c.find_way.ensures.seen c.find_way.ensures.any_moment
    c.clear_log.ensures.any_moment) c.store_start.ensures.any_log_moment
