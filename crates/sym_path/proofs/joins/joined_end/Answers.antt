use Rattle.std.proofs.Common.{◌≡◌, Result, Ok, Err}
use Rattle.std.specs.Prelude.{IfOk}
use Rattle.sym_path.specs.declared.path.PathEnd.{PathEnd}
use Rattle.sym_path.specs.Joins.{IsJoinedEnd}
use Rattle.sym_path.proofs.JoiningJoined.{first_end, second_end}
use Rattle.sym_path.proofs.joins.joined_end.Goals as goal

if_ok : {A E : Type 0} (P Q : A → Type 0) (r : Result A E) → ((x : A) → P x → Q x) → IfOk r P → IfOk r Q
if_ok P Q (Ok x) h k = h x k
if_ok P Q (Err e) h k = tt

pub returns-then-end_is_taken : goal.returns-then-end_is_taken
returns-then-end_is_taken c = if_ok (λ (e : PathEnd). e ≡ c.args.p.now.end) (IsJoinedEnd c.args.p.now c.args.q.now) c.copy.result (λ e is. first_end c.args.p.now c.args.q.now e c.end_is_taken.result c.end_is_taken.ensures c.if-end_is_taken.true is) c.copy.ensures

pub returns-else-end_is_taken : goal.returns-else-end_is_taken
returns-else-end_is_taken c = if_ok (λ (e : PathEnd). e ≡ c.args.q.now.end) (IsJoinedEnd c.args.p.now c.args.q.now) c.copy-else-end_is_taken.result (λ e is. second_end c.args.p.now c.args.q.now e c.end_is_taken.result c.requires c.end_is_taken.ensures c.if-end_is_taken.false is) c.copy-else-end_is_taken.ensures
