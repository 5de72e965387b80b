-- The printed text is that of the same script, places aside.
use Rattle.std.proofs.Common.{◌≡◌, ℕ, List, Result, Ok, Err, IfOk, sym, subst}
use Rattle.sym_base.specs.Lawful.{IsLawful}
use Rattle.sym_base.specs.Trees.{ScriptTree}
use Rattle.sym_parse.specs.Answers.{IsScriptOf}
use Rattle.sym_parse.specs.Bare.{IsTextOf, ParsesAs}
use Rattle.sym_parse.specs.Limits.{most}
use Rattle.sym_parse.specs.Syntax.Scripts.{IsScript}
use Rattle.sym_parse.proofs.Answering.{parsed-reads}
use Rattle.sym_parse.proofs.Printout.DeclarationsBack.{script-reads}
use Rattle.sym_parse.specs.Printed.{script_text, script, text}
use Rattle.sym_parse.proofs.Printout.Separated.{script-fits}
use Rattle.sym_parse.proofs.Printout.Tokenized.{lexed}

read-again : (s : ScriptTree) → IsLawful s → IsTextOf (script_text s) s
unfolding script_text
read-again s h =
    let l = lexed (script s) (script-fits s h) in
    let r = script-reads l.place s h in
    let there : IsScriptOf (text (script s)) r.tree = record {
      tokens = l.tokens;
      lexed = l.reads;
      script = subst (λ ls. IsScript most ls r.tree) l.same r.reads;
    } in
    record { again = r.tree; accepted = there; same = r.same }

-- What is printed is read again.
pub printed_again : {V E : Type 0} (view : V → List ℕ) (s : ScriptTree) (r : Result V E) → IsLawful s → IfOk r (λ v. view v ≡ script_text s) → IfOk r (λ v. IsTextOf (view v) s)
printed_again view s (Ok v) h e = subst (λ bytes. IsTextOf bytes s) (sym e) (read-again s h)
printed_again view s (Err refused) h e = e

pub parsed_again : {V E : Type 0} (view : V → List ℕ) (s : ScriptTree) (r : Result V E) → IfOk r (λ v. IsTextOf (view v) s) → IfOk r (λ v. ParsesAs (view v) s)
parsed_again view s (Ok v) h = record { again = h.again; parses = parsed-reads (view v) h.again h.accepted; same = h.same }
parsed_again view s (Err refused) h = h
