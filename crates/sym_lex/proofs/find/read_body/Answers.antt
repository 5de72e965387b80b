-- Each byte is the next one of the text, a `\` before one, or the end of reading.
use Rattle.std.proofs.Common.{◌≡◌, false, [], ◌∷◌, ◌++◌, List, ℕ, ◌+◌, drop, get_or, ◌∙◌, sym, subst, arith}
use Rattle.sym_lex.specs.Lexing.{body_of}
use Rattle.sym_lex.proofs.Bodies.{continued, read-backslash, read-end, read-escaped, read-line, read-plain, read-quote, read-refused}
use Rattle.sym_lex.proofs.Bytes.{backslash-true, backslash-false, line-true, line-false, quote-true, quote-false}
use Rattle.sym_lex.proofs.find.read_body.Goals.{then-after_backslash+else-not-is_escaped, else-after_backslash+else-byte-eq34+else-byte-eq10+else-byte-eq92}
use Rattle.sym_lex.proofs.find.read_body.Goals as goal

pub returns-then-not-is_escaped : goal.returns-then-not-is_escaped
returns-then-not-is_escaped c = record {
  read = read-refused c.body.text.items c.body.size c.body.byte-index c.args.bytes.now (body_of false c.args.bytes.now) c.body-test.true
      (sym c.is_escaped.ensures ∙ c.if-not-is_escaped.true) (rw c.if-after_backslash.true at c.body.invariant.read);
  within = tt;
}

pub returns-then-byte-eq34-clause-read : goal.returns-then-byte-eq34-clause-read
returns-then-byte-eq34-clause-read c =
    read-quote c.body.text.items c.body.size c.body.byte-index c.args.bytes.now (body_of false c.args.bytes.now) c.body-test.true
    (quote-true _ c.if-byte-eq34.true) (rw c.if-after_backslash.false at c.body.invariant.read)

pub returns-then-byte-eq10 : goal.returns-then-byte-eq10
returns-then-byte-eq10 c = record {
  read = read-line c.body.text.items c.body.size c.body.byte-index c.args.bytes.now (body_of false c.args.bytes.now) c.body-test.true
      (quote-false _ c.if-byte-eq34.false) (line-true _ c.if-byte-eq10.true) (rw c.if-after_backslash.false at c.body.invariant.read);
  within = tt;
}

pub body-preserved-then-byte-eq92 : goal.body-preserved-then-byte-eq92
body-preserved-then-byte-eq92 c = record {
  counted = omega arith;
  read = read-backslash c.body.text.items c.body.size c.body.byte-index c.args.bytes.now (body_of false c.args.bytes.now) c.body-test.true
      (quote-false _ c.if-byte-eq34.false) (line-false _ c.if-byte-eq10.false) (backslash-true _ c.if-byte-eq92.true)
      (rw c.if-after_backslash.false at c.body.invariant.read);
}

pub body-preserved : goal.body-preserved
body-preserved c = record {
  counted = omega arith;
  read =
      let whole = body_of false c.args.bytes.now in
      let pushed : c.push.new.self.items ≡ c.body.text.items ++ get_or c.args.bytes.now c.body.byte-index 0 ∷ [] = c.in_ok-push.ensures.items in
      let joined : continued (c.body.text.items ++ get_or c.args.bytes.now c.body.byte-index 0 ∷ []) (c.body.size + 1) (body_of c.if-after_backslash.after_backslash (drop (c.body.byte-index + 1) c.args.bytes.now)) ≡ whole =
      elim c.if-after_backslash.branch [
        | then-after_backslash+else-not-is_escaped w ↦
            rw w.after_backslash-is
            (read-escaped c.body.text.items c.body.size c.body.byte-index c.args.bytes.now whole c.body-test.true
            (sym w.is_escaped.ensures ∙ w.if-not-is_escaped.false) (rw w.if-after_backslash.true at c.body.invariant.read))
        | else-after_backslash+else-byte-eq34+else-byte-eq10+else-byte-eq92 w ↦
            rw (w.after_backslash-is, w.if-after_backslash.false)
            (read-plain c.body.text.items c.body.size c.body.byte-index c.args.bytes.now whole c.body-test.true
            (quote-false _ w.if-byte-eq34.false) (line-false _ w.if-byte-eq10.false) (backslash-false _ w.if-byte-eq92.false)
            (rw w.if-after_backslash.false at c.body.invariant.read))
      ] in
      subst (λ (t : List ℕ). continued t (c.body.size + 1) (body_of c.if-after_backslash.after_backslash (drop (c.body.byte-index + 1) c.args.bytes.now)) ≡ whole) (sym pushed) joined;
}

pub returns : goal.returns
returns c = record {
  read = read-end c.body.text.items c.body.size c.body.byte-index c.body.after_backslash c.args.bytes.now (body_of false c.args.bytes.now) (omega arith) c.body.invariant.read;
  within = tt;
}
