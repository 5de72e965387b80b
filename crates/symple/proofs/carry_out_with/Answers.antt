use Rattle.std.proofs.Common.{◌≡◌, ◌≤◌, ◌⊎◌, inl, inr, List, None, map, subst, arith}
use Rattle.std.specs.String.{string_bytes}
use Rattle.sym_command.specs.Commands.{Form, asks}
use Rattle.sym_message.specs.Telling.{Short}
use Rattle.sym_top.specs.Observers.{IsUnwatched}
use Rattle.sym_top.specs.Promises.{call_of}
use Rattle.sym_top.specs.TopCall.{IsCarriedOut}
use Rattle.symple.specs.Counting.{Stream}
use Rattle.symple.specs.Program.{LeavesAll, program_forms, streamed}
use Rattle.symple.proofs.Handed.{forms-are}
use Rattle.symple.proofs.carry_out_with.Goals as goal

pub returns-clause-carried : goal.returns-clause-carried
returns-clause-carried g c =
    subst (λ (forms : List Form). IsCarriedOut
    (call_of (λ disk name. None) (λ disk name. disk.faults) (asks (map string_bytes c.args.words.now.items) forms (λ row. row)) c.args.files.now c.symple.new.files)
    (streamed c.args.out.now c.symple.new.out) (streamed c.args.err.now c.symple.new.err) c.symple.result)
    (forms-are _ _ c.args.forms.items program_forms c.requires.forms) c.symple.ensures.carried

-- No write to a stream finds its memory full.
never-short : {P : Type 0} (before after : Stream) → P ⊎ Short (streamed before after) → P
never-short before after (inl p) = p
never-short before after (inr short) = let rose : 1 ≤ 0 = short in absurd (omega (arith, rose))

pub returns-clause-leaves : goal.returns-clause-leaves
returns-clause-leaves g c =
    let leaves = c.symple.ensures.leaves in
    subst (λ (forms : List Form). LeavesAll
    (call_of (λ disk name. None) (λ disk name. disk.faults) (asks (map string_bytes c.args.words.now.items) forms (λ row. row)) c.args.files.now c.symple.new.files)
    c.args.files.now c.symple.new.files c.args.out.now c.symple.new.out c.args.err.now c.symple.new.err c.symple.result)
    (forms-are _ _ c.args.forms.items program_forms c.requires.forms)
    (record {
      unread = leaves.unread;
      unwritten = leaves.unwritten;
      memory = λ full. never-short c.args.out.now c.symple.new.out (leaves.memory full);
      quiet = leaves.quiet;
    })

pub returns-clause-unwatched : goal.returns-clause-unwatched
returns-clause-unwatched g c =
    subst (λ (forms : List Form). IsUnwatched
    (call_of (λ disk name. None) (λ disk name. disk.faults) (asks (map string_bytes c.args.words.now.items) forms (λ row. row)) c.args.files.now c.symple.new.files) →
    c.symple.new.observers ≡ c.args.observers.now)
    (forms-are _ _ c.args.forms.items program_forms c.requires.forms) c.symple.ensures.leaves.unwatched
