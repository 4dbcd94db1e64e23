use mathlib.Core.Path.{sym, ◌∙◌}
use Rattle.requests.proofs.Lines.{saved_into_lem, saved_not, saves, saves_not}
use Rattle.requests.proofs.kinds.save.Goals as goal

pub returns-in-Ok-clause-spelled : goal.returns-in-Ok-clause-spelled
returns-in-Ok-clause-spelled c = rw (saves _ c.load-loaded.ensures c.in-Ok.is _, ← c.save-kept.ensures.answer, ← c.save-kept.ensures.leaves) c.with_bytes.ensures

pub returns-in-Ok-clause-buffer : goal.returns-in-Ok-clause-buffer
returns-in-Ok-clause-buffer c = c.save-kept.ensures.leaves ∙ sym (saved_into_lem _ c.load-loaded.ensures c.in-Ok.is _)

pub returns-in-Err-clause-spelled : goal.returns-in-Err-clause-spelled
returns-in-Err-clause-spelled c = rw (saves_not _ c.load-loaded.ensures c.in-Err.is _) c.bare.ensures

pub returns-in-Err-clause-buffer : goal.returns-in-Err-clause-buffer
returns-in-Err-clause-buffer c = sym (saved_not _ c.load-loaded.ensures c.in-Err.is _)
