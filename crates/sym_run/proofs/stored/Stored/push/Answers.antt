use Rattle.std.proofs.Common.{◌∙◌, ◌≡◌, ◌+◌, ◌++◌, ℕ, length, length-append, ap, refl, subst, sym, arith}
use Rattle.std.proofs.lemmas.Result.{err_from_is_err_and}
use Rattle.sym_base.specs.declared.values.record.Record.{Record}
use Rattle.sym_run.specs.Keeping.{AreWide}
use Rattle.sym_run.proofs.CutRecords.{IsPush, push_done, push_failed, push_room}
use Rattle.sym_run.proofs.stored.Stored.push.Goals as goal

pub overflow_mul-len : goal.overflow_mul-len
overflow_mul-len c =
    let i = c.self.inside in
    let rec : Record = record { no = c.args.no; fields = c.args.first.now ++ c.args.rest.now } in
    let wide : ℕ = length c.args.first.now + length c.args.rest.now in
    let pushed : IsPush i.width wide i.numbers.items i.values.items rec c.args.self.now =
    record { room = c.self.invariant; are = c.self.view_is; same = sym (length-append c.args.first.now c.args.rest.now); as_wide = subst (λ (n : ℕ). AreWide n c.args.self.now) (sym (length-append c.args.first.now c.args.rest.now)) c.requires } in
    let count : c.len.result ≡ length i.numbers.items = omega (arith, c.len.ensures, i.numbers.ok.0) in
    omega (arith, push_room i.width wide c.len.result i.numbers.items i.values.items rec c.args.self.now pushed count, i.values.ok.0)

pub invariant_of-self : goal.invariant_of-self
invariant_of-self c =
    let i = c.self.inside in
    let rec : Record = record { no = c.args.no; fields = c.args.first.now ++ c.args.rest.now } in
    let wide : ℕ = length c.args.first.now + length c.args.rest.now in
    let pushed : IsPush i.width wide i.numbers.items i.values.items rec c.args.self.now =
    record { room = c.self.invariant; are = c.self.view_is; same = sym (length-append c.args.first.now c.args.rest.now); as_wide = subst (λ (n : ℕ). AreWide n c.args.self.now) (sym (length-append c.args.first.now c.args.rest.now)) c.requires } in
    let count : c.len.result ≡ length i.numbers.items = omega (arith, c.len.ensures, i.numbers.ok.0) in
    let more = c.push_pieces.ensures.err in
    (push_failed i.width wide c.len.result i.numbers.items i.numbers.items i.values.items more.0 c.push_pieces.new.values.items rec c.args.self.now pushed count refl
    (more.1 ∙ ap (λ vs. vs ++ more.0) c.truncate.ensures.items)).1

pub returns-in_err-push_pieces-clause-err : goal.returns-in_err-push_pieces-clause-err
returns-in_err-push_pieces-clause-err c =
    let i = c.self.inside in
    let rec : Record = record { no = c.args.no; fields = c.args.first.now ++ c.args.rest.now } in
    let wide : ℕ = length c.args.first.now + length c.args.rest.now in
    let pushed : IsPush i.width wide i.numbers.items i.values.items rec c.args.self.now =
    record { room = c.self.invariant; are = c.self.view_is; same = sym (length-append c.args.first.now c.args.rest.now); as_wide = subst (λ (n : ℕ). AreWide n c.args.self.now) (sym (length-append c.args.first.now c.args.rest.now)) c.requires } in
    let count : c.len.result ≡ length i.numbers.items = omega (arith, c.len.ensures, i.numbers.ok.0) in
    let more = c.push_pieces.ensures.err in
    let e = err_from_is_err_and c.from_residual.result c.from_residual.ensures.1 in
    rw e.1 (push_failed i.width wide c.len.result i.numbers.items i.numbers.items i.values.items more.0 c.push_pieces.new.values.items rec c.args.self.now pushed count refl
    (more.1 ∙ ap (λ vs. vs ++ more.0) c.truncate.ensures.items)).0

pub invariant_of-self-in_err-push : goal.invariant_of-self-in_err-push
invariant_of-self-in_err-push c =
    let i = c.self.inside in
    let rec : Record = record { no = c.args.no; fields = c.args.first.now ++ c.args.rest.now } in
    let wide : ℕ = length c.args.first.now + length c.args.rest.now in
    let pushed : IsPush i.width wide i.numbers.items i.values.items rec c.args.self.now =
    record { room = c.self.invariant; are = c.self.view_is; same = sym (length-append c.args.first.now c.args.rest.now); as_wide = subst (λ (n : ℕ). AreWide n c.args.self.now) (sym (length-append c.args.first.now c.args.rest.now)) c.requires } in
    let count : c.len.result ≡ length i.numbers.items = omega (arith, c.len.ensures, i.numbers.ok.0) in
    let more = c.push_pieces.ensures.err in
    (push_failed i.width wide c.len.result i.numbers.items c.push.new.self.items i.values.items more.0 c.push_pieces.new.values.items rec c.args.self.now pushed count c.in_err-push.ensures.items
    (more.1 ∙ ap (λ vs. vs ++ more.0) c.truncate.ensures.items)).1

pub returns-in_err-push-clause-err : goal.returns-in_err-push-clause-err
returns-in_err-push-clause-err c =
    let i = c.self.inside in
    let rec : Record = record { no = c.args.no; fields = c.args.first.now ++ c.args.rest.now } in
    let wide : ℕ = length c.args.first.now + length c.args.rest.now in
    let pushed : IsPush i.width wide i.numbers.items i.values.items rec c.args.self.now =
    record { room = c.self.invariant; are = c.self.view_is; same = sym (length-append c.args.first.now c.args.rest.now); as_wide = subst (λ (n : ℕ). AreWide n c.args.self.now) (sym (length-append c.args.first.now c.args.rest.now)) c.requires } in
    let count : c.len.result ≡ length i.numbers.items = omega (arith, c.len.ensures, i.numbers.ok.0) in
    let more = c.push_pieces.ensures.err in
    let e = err_from_is_err_and c.from_residual-in_err-push.result c.from_residual-in_err-push.ensures.1 in
    rw e.1 (push_failed i.width wide c.len.result i.numbers.items c.push.new.self.items i.values.items more.0 c.push_pieces.new.values.items rec c.args.self.now pushed count c.in_err-push.ensures.items
    (more.1 ∙ ap (λ vs. vs ++ more.0) c.truncate.ensures.items)).0

pub invariant_of-self-2 : goal.invariant_of-self-2
invariant_of-self-2 c =
    let i = c.self.inside in
    let rec : Record = record { no = c.args.no; fields = c.args.first.now ++ c.args.rest.now } in
    let wide : ℕ = length c.args.first.now + length c.args.rest.now in
    let pushed : IsPush i.width wide i.numbers.items i.values.items rec c.args.self.now =
    record { room = c.self.invariant; are = c.self.view_is; same = sym (length-append c.args.first.now c.args.rest.now); as_wide = subst (λ (n : ℕ). AreWide n c.args.self.now) (sym (length-append c.args.first.now c.args.rest.now)) c.requires } in
    let count : c.len.result ≡ length i.numbers.items = omega (arith, c.len.ensures, i.numbers.ok.0) in
    (push_done i.width wide c.len.result i.numbers.items c.push.new.self.items i.values.items c.push_pieces.new.values.items rec c.args.self.now pushed count c.in_ok-push.ensures.items
    (c.in_ok-push_pieces.ensures.ok ∙ ap (λ vs. vs ++ (c.args.first.now ++ c.args.rest.now)) c.truncate.ensures.items)).1

pub returns-clause-ok : goal.returns-clause-ok
returns-clause-ok c =
    let i = c.self.inside in
    let rec : Record = record { no = c.args.no; fields = c.args.first.now ++ c.args.rest.now } in
    let wide : ℕ = length c.args.first.now + length c.args.rest.now in
    let pushed : IsPush i.width wide i.numbers.items i.values.items rec c.args.self.now =
    record { room = c.self.invariant; are = c.self.view_is; same = sym (length-append c.args.first.now c.args.rest.now); as_wide = subst (λ (n : ℕ). AreWide n c.args.self.now) (sym (length-append c.args.first.now c.args.rest.now)) c.requires } in
    let count : c.len.result ≡ length i.numbers.items = omega (arith, c.len.ensures, i.numbers.ok.0) in
    (push_done i.width wide c.len.result i.numbers.items c.push.new.self.items i.values.items c.push_pieces.new.values.items rec c.args.self.now pushed count c.in_ok-push.ensures.items
    (c.in_ok-push_pieces.ensures.ok ∙ ap (λ vs. vs ++ (c.args.first.now ++ c.args.rest.now)) c.truncate.ensures.items)).0
