use borrow.Author.Rules.{rules}
use mathlib.Core.List.{[]}
use Rattle.text.proofs.Numbers.{hex-none, hex_some}
use Rattle.text.proofs.Texts.{all, more, none}
use Rattle.text.proofs.Text.put_hex.Goals as goal

pub returns-then-is_empty : goal.returns-then-is_empty
returns-then-is_empty c = rw (hex-none c.args.bytes.now (search rules)) c.put_byte.ensures

pub loop-byte-init : goal.loop-byte-init
loop-byte-init c = none _ []

pub loop-byte-preserved : goal.loop-byte-preserved
loop-byte-preserved c = more _ _ _ 0 c.loop-byte-test.true c.loop-byte.invariant c.put_hex_byte.ensures

pub returns : goal.returns
returns c = rw (hex_some c.args.bytes.now (search rules)) (all _ _ c.loop-byte-test.false c.loop-byte.invariant)
