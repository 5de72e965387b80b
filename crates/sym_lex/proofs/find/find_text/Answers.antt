-- The decoded bytes are a text where they are UTF-8.
use Rattle.std.proofs.Common.{◌≡◌, true, false, Some, Ok, List, Vec, Global, ℕ, ◌+◌, ◌∙◌, option_map, sym, ap}
use Rattle.std.proofs.lemmas.Str.{IsUtf8-string_bytes, IsUtf8-from_is_utf8, is_utf8-from_IsUtf8}
use Rattle.std.specs.Str.{is_utf8}
use Rattle.std.specs.String.{string_bytes}
use Rattle.sym_lex.specs.declared.token.TokenKind.TheVariants.{Str}
use Rattle.sym_lex.specs.Lexing.{body_of}
use Rattle.sym_lex.specs.Views.{body_view}
use Rattle.sym_lex.proofs.Bodies.{text-given, text-refused}
use Rattle.sym_lex.proofs.Bytes.{by_test}
use Rattle.sym_lex.proofs.find.find_text.Goals as goal

pub returns-in-Ok : goal.returns-in-Ok
returns-in-Ok c =
    let read : body_of false c.args.rest.now ≡ Some (body_view c.in-Some.body) = sym c.in_ok-body.ensures.read ∙ ap (option_map body_view) c.in-Some.is in
    let bytes : string_bytes c.in-Ok.text ≡ c.in-Some.body.text.items = ap (λ (v : Vec ℕ Global). v.items) c.in-Ok.ensures.ok in
    let utf8 : is_utf8 c.in-Some.body.text.items ≡ true = ap is_utf8 (sym bytes) ∙ is_utf8-from_IsUtf8 (string_bytes c.in-Ok.text) (IsUtf8-string_bytes c.in-Ok.text) in
    text-given c.args.at (body_of false c.args.rest.now) (body_view c.in-Some.body) read utf8
    ∙ ap (λ (t : List ℕ). Ok (record { kind = Str t; size = 1 + c.in-Some.body.size })) (sym (c.of.ensures ∙ bytes))

pub returns : goal.returns
returns c =
    let read : body_of false c.args.rest.now ≡ Some (body_view c.in-Some.body) = sym c.in_ok-body.ensures.read ∙ ap (option_map body_view) c.in-Some.is in
    let wrong : is_utf8 c.in-Some.body.text.items ≡ false =
    by_test (is_utf8 c.in-Some.body.text.items) (λ t. let never : false ≡ true = c.in-Err.ensures.succeeds (IsUtf8-from_is_utf8 c.in-Some.body.text.items t) in absurd (cc)) (λ t. t) in
    text-refused c.args.at (body_of false c.args.rest.now) (body_view c.in-Some.body) read wrong
