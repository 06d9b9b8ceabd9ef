-- The first draws of two seeds.
use Rattle.std.proofs.Common.{◌≡◌, ℕ, ◌-◌, ◌^◌, [], ◌∷◌, refl}
use Rattle.rand_core.specs.Pcg32Seed.{pcg32_seed}
use Rattle.rand_core.specs.Steps.{word_bytes, u32_at}
use Rattle.p2p_runtime.specs.Draws.{seeded, two_words, drawn, exchanged, shuffled}

first_of_0 : (drawn (2 ^ 64 - 1) (seeded 0)).0 ≡ 18195738587432868099
unfolding seeded two_words pcg32_seed word_bytes u32_at
first_of_0 = refl

first_of_1 : (drawn (2 ^ 64 - 1) (seeded 1)).0 ≡ 9060384754756946918
unfolding seeded two_words pcg32_seed word_bytes u32_at
first_of_1 = refl

shuffled_by_0 : (shuffled {T = ℕ} (0 ∷ 1 ∷ 2 ∷ 3 ∷ 4 ∷ 5 ∷ []) (seeded 0)).0 ≡ 2 ∷ 0 ∷ 1 ∷ 5 ∷ 4 ∷ 3 ∷ []
unfolding seeded two_words exchanged pcg32_seed word_bytes u32_at
shuffled_by_0 = refl
