use Rattle.std.proofs.Common.{sym, ap, ◌∙◌, Some}
use Rattle.dir_store.specs.directory_api.Answers.{ReplyModel}
use Rattle.local_directory.proofs.Tables.{put_same}
use Rattle.local_directory.proofs.making.keep_reply.Goals as goal

-- the success that the table has already is the reply
pub returns-then-is_success-clause-kept : goal.returns-then-is_success-clause-kept
returns-then-is_success-clause-kept c =
    put_same c.args.clients.now c.args.request.client _
    (c.requires.room ∙ ap (λ (r : ReplyModel). Some (record {
      request = c.args.request.number;
      number = c.args.number;
      reply = r;
    })) (sym (c.is_success.ensures.0 c.if-is_success.true)))
