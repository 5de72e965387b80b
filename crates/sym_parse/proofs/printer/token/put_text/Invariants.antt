use Rattle.std.proofs.Common.{◌≡◌, ◌++◌, ◌∷◌, drop}
use Rattle.sym_lex.specs.Quoting.{escaped}
use Rattle.sym_parse.proofs.printer.token.put_text.Given as goal

abbrev pub invariant-bytes : goal.invariant-bytes
invariant-bytes l =
    l.out.items ++ escaped (drop l.byte-index l.byte-items) ≡ l.fn.out.items ++ (34 ∷ escaped l.fn.text)
