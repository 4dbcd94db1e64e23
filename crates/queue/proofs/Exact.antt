-- No second outcome meets a contract. `F.Post κs a r s` is the `ensures` of F as it stands in src/lib.rt, of the arguments a and the result r.
use Rattle.std.proofs.Common.{◌≡◌, sym, ◌∙◌}
use Rattle.queue.proofs.timers.Reads as timers
use Rattle.queue.proofs.devices.Reads as devices

pub timers_exact : (κs a r r' s s' : _) → timers.Post κs a r s → timers.Post κs a r' s' → r ≡ r'
timers_exact κs a r r' s s' p q = p.0 ∙ sym q.0

pub devices_exact : (κs a r r' s s' : _) → devices.Post κs a r s → devices.Post κs a r' s' → r ≡ r'
devices_exact κs a r r' s s' p q = p.0 ∙ sym q.0
