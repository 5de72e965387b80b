-- The operator of a token whose keyword or symbol is known.
use Rattle.std.proofs.Common.{◌≡◌, ap, Option, Some, None}
use Rattle.std.proofs.lemmas.Option.{same_Some}
use Rattle.sym_base.specs.declared.tree.expression.BinOp.{BinOp}
use Rattle.sym_lex.specs.declared.keyword.Keyword.{Keyword}
use Rattle.sym_lex.specs.declared.symbol.Symbol.{Symbol}
use Rattle.sym_parse.specs.Lexemes.{Terminal, Name, Number, Str, Word, Sign}
use Rattle.sym_parse.specs.Parsing.Expressions.{op_in}
use Rattle.sym_parse.specs.Steps.{word_of, sign_of}

pub op-word : (ops : Terminal → Option BinOp) (t : Option Terminal) (k : Keyword) → word_of t ≡ Some k → op_in ops t ≡ ops (Word k)
op-word ops None k e = cc
op-word ops (Some (Name text)) k e = cc
op-word ops (Some (Number n)) k e = cc
op-word ops (Some (Str text)) k e = cc
op-word ops (Some (Word other)) k e = ap (λ w. ops (Word w)) (same_Some other k e)
op-word ops (Some (Sign s)) k e = cc

pub op-sign : (ops : Terminal → Option BinOp) (t : Option Terminal) (s : Symbol) → sign_of t ≡ Some s → op_in ops t ≡ ops (Sign s)
op-sign ops None s e = cc
op-sign ops (Some (Name text)) s e = cc
op-sign ops (Some (Number n)) s e = cc
op-sign ops (Some (Str text)) s e = cc
op-sign ops (Some (Word k)) s e = cc
op-sign ops (Some (Sign other)) s e = ap (λ w. ops (Sign w)) (same_Some other s e)
