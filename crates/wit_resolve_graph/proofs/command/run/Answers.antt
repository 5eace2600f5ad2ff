use Rattle.std.proofs.Common.{rules, ◌≡◌, ◌++◌, ◌∷◌, [], List, subst, sym}
use Rattle.wit_resolve_graph.specs.Step.{Run}
use Rattle.wit_resolve_graph.specs.declared.command.Reply.{Reply}
use Rattle.wit_resolve_graph.proofs.Runs.{Run-more}
use Rattle.wit_resolve_graph.proofs.command.run.Goals as goal

pub loop-command-preserved : goal.loop-command-preserved
loop-command-preserved c =
    let longer : c.push.new.self.items ≡ c.loop-command.replies.items ++ c.carry_out-reply.result ∷ [] = search rules in
    record {
      room = search rules;
      shaped = search rules;
      run =
          subst (λ (replies : List Reply). Run c.args.resolve.now (c.loop-command.yielded ++ c.in-Some.command ∷ []) replies c.carry_out-reply.new.resolve) (sym longer)
          (Run-more c.args.resolve.now c.loop-command.resolve c.carry_out-reply.new.resolve c.loop-command.yielded c.loop-command.replies.items c.in-Some.command c.carry_out-reply.result
          c.loop-command.invariant.run c.carry_out-reply.ensures);
    }
