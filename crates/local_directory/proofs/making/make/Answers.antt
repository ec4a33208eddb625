-- What search doesn't prove of `make`: what `make_with_room` requires, what `put_back` requires, the clause `kept` and
-- the clause `err_clients`, by lemmas of `Tables`.
use Rattle.std.proofs.Common.{Some, is_some, ap, ◌∙◌}
use Rattle.std.specs.Option.{option_map}
use Rattle.std.specs.FinMap as map
use Rattle.dir_store.specs.directory_api.Answers.{ReplyModel}
use Rattle.dir_store.specs.Updates.{reply_to}
use Rattle.local_directory.specs.private.ClientOrder.{client_cmp}
use Rattle.local_directory.specs.private.Changes.{with_kept}
use Rattle.local_directory.specs.Latest.{KeptValue}
use Rattle.local_directory.specs.View.{kept_view}
use Rattle.local_directory.proofs.Tables.{put_there, has_put, put_twice, put_back_same}
use Rattle.local_directory.proofs.making.make.Goals as goal

pub make_with_room-requires-clause-room : goal.make_with_room-requires-clause-room
make_with_room-requires-clause-room c =
    ap (λ (m : map.FinMap client_cmp KeptValue). map.get m c.args.request.client) c.in_ok-before.ensures.ok
    ∙ put_there c.args.clients.now c.args.request.client _
    ∙ ap (λ (r : ReplyModel). Some (record { request = c.args.request.number; number = c.args.number; reply = r }))
    c.only.ensures

pub put_back-requires : goal.put_back-requires
put_back-requires c = record {
  there = ap (λ (m : map.FinMap client_cmp KeptValue). is_some (map.get m c.args.request.client))
      (c.in-Err.ensures.err_clients ∙ c.in_ok-before.ensures.ok) ∙ has_put c.args.clients.now c.args.request.client _;
}

pub returns-in-Ok-clause-kept : goal.returns-in-Ok-clause-kept
returns-in-Ok-clause-kept c =
    c.in-Ok.ensures.kept
    ∙ ap (λ (m : map.FinMap client_cmp KeptValue). map.insert m c.args.request.client
    (record {
      request = c.args.request.number;
      number = c.args.number;
      reply = reply_to c.args.store.now.directory
          c.args.number c.args.op.now;
    })) c.in_ok-before.ensures.ok
    ∙ put_twice c.args.clients.now c.args.request.client _ _

pub returns-in-Err-clause-err_clients : goal.returns-in-Err-clause-err_clients
returns-in-Err-clause-err_clients c =
    c.put_back.ensures
    ∙ ap (λ (m : map.FinMap client_cmp KeptValue). with_kept m c.args.request.client
    (option_map kept_view c.in_ok-before.before)) (c.in-Err.ensures.err_clients ∙ c.in_ok-before.ensures.ok)
    ∙ put_back_same c.args.clients.now c.args.request.client _ (option_map kept_view c.in_ok-before.before)
    c.in_ok-before.ensures.before
