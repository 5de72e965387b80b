-- Each turn passes over a blank or a comment, or takes one token.
use Rattle.std.proofs.Common.{◌≡◌, ◌+◌, ℕ, List, Vec, Global, length, length-drop, drop, Ok, Err, ◌∙◌, sym, ap, subst, arith}
use Rattle.sym_lex.specs.declared.found.Found.{Found}
use Rattle.sym_lex.specs.declared.token.Token.{Token}
use Rattle.sym_lex.specs.Lexing.{Answers, found_at, gap_size}
use Rattle.sym_lex.proofs.Finding.{found-fits}
use Rattle.sym_lex.proofs.Steps.{answers-fault, split, split-gap, split-token, split-end}
use Rattle.sym_lex.proofs.lexer.all_tokens.Goals as goal

pub text-preserved-then-gap-gt0 : goal.text-preserved-then-gap-gt0
text-preserved-then-gap-gt0 c =
    let rest : c.split_at.result.1.now ≡ drop c.text.at c.args.bytes.now = c.split_at.ensures.back in
    record {
      within = omega (arith, length-drop c.text.at c.args.bytes.now, ap length rest);
      read = split-gap c.text.tokens.items c.text.at c.gap_size-gap.result c.args.bytes.now (c.gap_size-gap.ensures.gap ∙ ap gap_size rest) (omega arith) ∙ c.text.invariant.read;
    }

pub overflow_add-end : goal.overflow_add-end
overflow_add-end c =
    let fits = found-fits c.text.at c.split_at.result.1.now c.in-Ok.found (sym c.gap_size-gap.ensures.gap ∙ omega arith) c.in-Ok.ensures in
    omega (arith, length-drop c.text.at c.args.bytes.now, ap length c.split_at.ensures.back, fits, c.requires)

pub overflow_cast-end : goal.overflow_cast-end
overflow_cast-end c =
    let fits = found-fits c.text.at c.split_at.result.1.now c.in-Ok.found (sym c.gap_size-gap.ensures.gap ∙ omega arith) c.in-Ok.ensures in
    omega (arith, length-drop c.text.at c.args.bytes.now, ap length c.split_at.ensures.back, fits, c.requires)

pub returns-in-Err : goal.returns-in-Err
returns-in-Err c =
    let gap : gap_size (drop c.text.at c.args.bytes.now) ≡ 0 = ap gap_size (sym c.split_at.ensures.back) ∙ sym c.gap_size-gap.ensures.gap ∙ omega arith in
    answers-fault c.text.tokens.items c.text.at c.args.bytes.now c.in-Err.err (λ f. f) (λ (v : Vec Token Global). v.items) (omega arith) gap
    (subst (λ (t : List ℕ). Answers {A = Found} {B = Found} (λ f. f) (Err c.in-Err.err) (found_at c.text.at t)) c.split_at.ensures.back c.in-Err.ensures) c.text.invariant.read

pub text-preserved : goal.text-preserved
text-preserved c =
    let back : c.split_at.result.1.now ≡ drop c.text.at c.args.bytes.now = c.split_at.ensures.back in
    let gap : gap_size (drop c.text.at c.args.bytes.now) ≡ 0 = ap gap_size (sym back) ∙ sym c.gap_size-gap.ensures.gap ∙ omega arith in
    let found : found_at c.text.at (drop c.text.at c.args.bytes.now) ≡ Ok c.in-Ok.found = ap (found_at c.text.at) (sym back) ∙ c.in-Ok.ensures in
    let fits = found-fits c.text.at (drop c.text.at c.args.bytes.now) c.in-Ok.found gap found in
    record {
      within = omega (arith, length-drop c.text.at c.args.bytes.now, fits);
      read =
          let s = split-token c.text.tokens.items c.text.at c.in-Ok.found c.args.bytes.now gap found fits.0 fits.1 ∙ c.text.invariant.read in
          ap (λ (front : List Token). split front (c.text.at + c.in-Ok.found.size) c.args.bytes.now) c.in_ok-push.ensures.items ∙ s;
    }

pub text-smaller : goal.text-smaller
text-smaller c =
    let back : c.split_at.result.1.now ≡ drop c.text.at c.args.bytes.now = c.split_at.ensures.back in
    let fits = found-fits c.text.at c.split_at.result.1.now c.in-Ok.found (sym c.gap_size-gap.ensures.gap ∙ omega arith) c.in-Ok.ensures in
    omega (arith, length-drop c.text.at c.args.bytes.now, ap length back, fits)

pub returns : goal.returns
returns c = sym c.text.invariant.read ∙ split-end c.text.tokens.items c.text.at c.args.bytes.now (omega arith)
