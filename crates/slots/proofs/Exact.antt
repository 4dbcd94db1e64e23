-- No second outcome meets a contract. `F.Post .. κs a r s` is the `ensures` of F as it stands in src/lib.rt, of the arguments a, the result r and what is left, s.
-- Where F takes a test or a step, that is so of one that computes something.
use Rattle.std.proofs.Common.{◌≡◌, sym, ◌∙◌}
use Rattle.slots.proofs.count.Reads as count
use Rattle.slots.proofs.used.Reads as used
use Rattle.slots.proofs.push.Reads as push
use Rattle.slots.proofs.oldest.Reads as oldest
use Rattle.slots.proofs.laid.Reads as laid
use Rattle.slots.proofs.without_oldest.Reads as without_oldest
use Rattle.slots.proofs.any.Reads as any
use Rattle.slots.specs.contracts.any.F-Fn as any_test
use Rattle.slots.proofs.every.Reads as every
use Rattle.slots.specs.contracts.every.F-Fn as every_test
use Rattle.slots.proofs.find.Reads as find
use Rattle.slots.specs.contracts.find.F-Fn as find_test
use Rattle.slots.proofs.count_where.Reads as count_where
use Rattle.slots.specs.contracts.count_where.F-Fn as count_where_test
use Rattle.slots.proofs.tight.Reads as tight
use Rattle.slots.specs.contracts.tight.F-Fn as tight_test
use Rattle.slots.proofs.keep.Reads as keep
use Rattle.slots.specs.contracts.keep.F-Fn as keep_test
use Rattle.slots.proofs.without.Reads as without
use Rattle.slots.specs.contracts.without.F-Fn as without_test
use Rattle.slots.proofs.fold.Reads as fold
use Rattle.slots.specs.contracts.fold.F-Fn as fold_step
use Rattle.slots.specs.Slots.{Computes, Steps}

pub count_exact : (T t tc S Sd C Cd κs a r r' s s' : _) → count.Post T t tc S Sd C Cd κs a r s → count.Post T t tc S Sd C Cd κs a r' s' → r ≡ r'
count_exact T t tc S Sd C Cd κs a r r' s s' p q = p.0 ∙ sym q.0

pub used_exact : (T t tc S Sd C Cd κs a r r' s s' : _) → used.Post T t tc S Sd C Cd κs a r s → used.Post T t tc S Sd C Cd κs a r' s' → r.now ≡ r'.now
used_exact T t tc S Sd C Cd κs a r r' s s' p q = p ∙ sym q

pub push_exact : (T t tc S Sd C Cd κs a r r' s s' : _) → push.Post T t tc S Sd C Cd κs a r s → push.Post T t tc S Sd C Cd κs a r' s' → s.0.now ≡ s'.0.now
push_exact T t tc S Sd C Cd κs a r r' s s' p q = p ∙ sym q

pub oldest_exact : (T t tc S Sd C Cd κs a r r' s s' : _) → oldest.Post T t tc S Sd C Cd κs a r s → oldest.Post T t tc S Sd C Cd κs a r' s' → r ≡ r'
oldest_exact T t tc S Sd C Cd κs a r r' s s' p q = p ∙ sym q

pub laid_exact : (T N t n tc S Sd C Cd κs a r r' s s' : _) → laid.Post T N t n tc S Sd C Cd κs a r s → laid.Post T N t n tc S Sd C Cd κs a r' s' → r ≡ r'
laid_exact T N t n tc S Sd C Cd κs a r r' s s' p q = p ∙ sym q

pub without_oldest_exact : (T N t n tc S Sd C Cd κs a r r' s s' : _) → without_oldest.Post T N t n tc S Sd C Cd κs a r s → without_oldest.Post T N t n tc S Sd C Cd κs a r' s' → r ≡ r'
without_oldest_exact T N t n tc S Sd C Cd κs a r r' s s' p q = p ∙ sym q

pub any_exact : (T F t f tc S Sd C Cd Fn Fnd M O D κs a r r' s s' : _) → any.Post T F t f tc S Sd C Cd Fn Fnd M O D κs a r s → any.Post T F t f tc S Sd C Cd Fn Fnd M O D κs a r' s' → (p : _) → Computes ((any_test.words T F Fn).post a.1.0) p → r ≡ r'
any_exact T F t f tc S Sd C Cd Fn Fnd M O D κs a r r' s s' q q' p e = q p e ∙ sym (q' p e)

pub every_exact : (T F t f tc S Sd C Cd Fn Fnd M O D κs a r r' s s' : _) → every.Post T F t f tc S Sd C Cd Fn Fnd M O D κs a r s → every.Post T F t f tc S Sd C Cd Fn Fnd M O D κs a r' s' → (p : _) → Computes ((every_test.words T F Fn).post a.1.0) p → r ≡ r'
every_exact T F t f tc S Sd C Cd Fn Fnd M O D κs a r r' s s' q q' p e = q p e ∙ sym (q' p e)

pub find_exact : (T F t f tc S Sd C Cd Fn Fnd M O D κs a r r' s s' : _) → find.Post T F t f tc S Sd C Cd Fn Fnd M O D κs a r s → find.Post T F t f tc S Sd C Cd Fn Fnd M O D κs a r' s' → (p : _) → Computes ((find_test.words T F Fn).post a.1.0) p → r ≡ r'
find_exact T F t f tc S Sd C Cd Fn Fnd M O D κs a r r' s s' q q' p e = q p e ∙ sym (q' p e)

pub count_where_exact : (T F t f tc S Sd C Cd Fn Fnd M O D κs a r r' s s' : _) → count_where.Post T F t f tc S Sd C Cd Fn Fnd M O D κs a r s → count_where.Post T F t f tc S Sd C Cd Fn Fnd M O D κs a r' s' → (p : _) → Computes ((count_where_test.words T F Fn).post a.1.0) p → r ≡ r'
count_where_exact T F t f tc S Sd C Cd Fn Fnd M O D κs a r r' s s' q q' p e = q.0 p e ∙ sym (q'.0 p e)

pub tight_exact : (T F t f tc S Sd C Cd Fn Fnd M O D κs a r r' s s' : _) → tight.Post T F t f tc S Sd C Cd Fn Fnd M O D κs a r s → tight.Post T F t f tc S Sd C Cd Fn Fnd M O D κs a r' s' → (p : _) → Computes ((tight_test.words T F Fn).post a.1.0) p → r ≡ r'
tight_exact T F t f tc S Sd C Cd Fn Fnd M O D κs a r r' s s' q q' p e = q.0 p e ∙ sym (q'.0 p e)

pub keep_exact : (T N F t n f tc S Sd C Cd Fn Fnd M O D κs a r r' s s' : _) → keep.Post T N F t n f tc S Sd C Cd Fn Fnd M O D κs a r s → keep.Post T N F t n f tc S Sd C Cd Fn Fnd M O D κs a r' s' → (p : _) → Computes ((keep_test.words T (denote.Param.number N) F Fn).post a.1.0) p → r ≡ r'
keep_exact T N F t n f tc S Sd C Cd Fn Fnd M O D κs a r r' s s' q q' p e = q p e ∙ sym (q' p e)

pub without_exact : (T N F t n f tc S Sd C Cd Fn Fnd M O D κs a r r' s s' : _) → without.Post T N F t n f tc S Sd C Cd Fn Fnd M O D κs a r s → without.Post T N F t n f tc S Sd C Cd Fn Fnd M O D κs a r' s' → (p : _) → Computes ((without_test.words T (denote.Param.number N) F Fn).post a.1.0) p → r ≡ r'
without_exact T N F t n f tc S Sd C Cd Fn Fnd M O D κs a r r' s s' q q' p e = q p e ∙ sym (q' p e)

pub fold_exact : (T B F t b f tc bc S Sd C Cd BC BCd Fn Fnd M O D κs a r r' s s' : _) → fold.Post T B F t b f tc bc S Sd C Cd BC BCd Fn Fnd M O D κs a r s → fold.Post T B F t b f tc bc S Sd C Cd BC BCd Fn Fnd M O D κs a r' s' → (g : _) → Steps ((fold_step.words T B F Fn).post a.1.1.0) g → r ≡ r'
fold_exact T B F t b f tc bc S Sd C Cd BC BCd Fn Fnd M O D κs a r r' s s' q q' g e = q g e ∙ sym (q' g e)
