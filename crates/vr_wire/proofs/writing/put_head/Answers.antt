-- Frames: what stands before a message's fields, put in three parts.
use Rattle.std.proofs.Common.{◌∷◌, [], ◌++◌}
use Rattle.view_store.specs.Cluster.{cluster_octets}
use Rattle.vr_wire.proofs.PutLaws.{put_both}
use Rattle.vr_wire.proofs.writing.put_head.Goals as goal

pub returns-clause-spelled : goal.returns-clause-spelled
returns-clause-spelled c =
    let a = c.args in
    let zeros = 0 ∷ 0 ∷ 0 ∷ 0 ∷ 2 ∷ [] in
    let cluster = cluster_octets a.cluster in
    put_both a.out.now.items c.put_cluster.new.out.items c.extend_from_slice-2.new.self.items (zeros ++ cluster)
    (a.kind ∷ a.sender ∷ [])
    (put_both a.out.now.items c.extend_from_slice.new.self.items c.put_cluster.new.out.items zeros cluster
    c.in_ok-extend_from_slice.ensures.items c.in_ok-put_cluster.ensures.spelled)
    c.in_ok-extend_from_slice-2.ensures.items
