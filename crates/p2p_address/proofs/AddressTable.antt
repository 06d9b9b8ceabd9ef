-- The ends of each range of addresses that aren't global, and their neighbours.
use Rattle.std.proofs.Common.{◌≡◌, ℕ, true, not, List, [], ◌∷◌, refl}
use Rattle.std.specs.List.{list_all}
use Rattle.p2p_address.specs.Ranges.{is_global_v4, is_global_v6}

abbrev v4_inside : List (List ℕ)
v4_inside =
    (0 ∷ 0 ∷ 0 ∷ 0 ∷ []) ∷ (0 ∷ 255 ∷ 255 ∷ 255 ∷ []) ∷ (10 ∷ 0 ∷ 0 ∷ 0 ∷ []) ∷ (10 ∷ 255 ∷ 255 ∷ 255 ∷ []) ∷ (100 ∷ 64 ∷ 0 ∷ 0 ∷ []) ∷ (100 ∷ 127 ∷ 255 ∷ 255 ∷ [])
    ∷ (127 ∷ 0 ∷ 0 ∷ 0 ∷ []) ∷ (127 ∷ 255 ∷ 255 ∷ 255 ∷ []) ∷ (169 ∷ 254 ∷ 0 ∷ 0 ∷ []) ∷ (169 ∷ 254 ∷ 255 ∷ 255 ∷ []) ∷ (172 ∷ 16 ∷ 0 ∷ 0 ∷ []) ∷ (172 ∷ 31 ∷ 255 ∷ 255 ∷ [])
    ∷ (192 ∷ 0 ∷ 0 ∷ 0 ∷ []) ∷ (192 ∷ 0 ∷ 0 ∷ 255 ∷ []) ∷ (192 ∷ 0 ∷ 2 ∷ 0 ∷ []) ∷ (192 ∷ 0 ∷ 2 ∷ 255 ∷ []) ∷ (192 ∷ 168 ∷ 0 ∷ 0 ∷ []) ∷ (192 ∷ 168 ∷ 255 ∷ 255 ∷ [])
    ∷ (198 ∷ 18 ∷ 0 ∷ 0 ∷ []) ∷ (198 ∷ 19 ∷ 255 ∷ 255 ∷ []) ∷ (198 ∷ 51 ∷ 100 ∷ 0 ∷ []) ∷ (198 ∷ 51 ∷ 100 ∷ 255 ∷ []) ∷ (203 ∷ 0 ∷ 113 ∷ 0 ∷ []) ∷ (203 ∷ 0 ∷ 113 ∷ 255 ∷ [])
    ∷ (240 ∷ 0 ∷ 0 ∷ 0 ∷ []) ∷ (255 ∷ 255 ∷ 255 ∷ 255 ∷ []) ∷ []

abbrev v4_outside : List (List ℕ)
v4_outside =
    (1 ∷ 0 ∷ 0 ∷ 0 ∷ []) ∷ (9 ∷ 255 ∷ 255 ∷ 255 ∷ []) ∷ (11 ∷ 0 ∷ 0 ∷ 0 ∷ []) ∷ (100 ∷ 63 ∷ 255 ∷ 255 ∷ []) ∷ (100 ∷ 128 ∷ 0 ∷ 0 ∷ []) ∷ (126 ∷ 255 ∷ 255 ∷ 255 ∷ [])
    ∷ (128 ∷ 0 ∷ 0 ∷ 0 ∷ []) ∷ (169 ∷ 253 ∷ 255 ∷ 255 ∷ []) ∷ (169 ∷ 255 ∷ 0 ∷ 0 ∷ []) ∷ (172 ∷ 15 ∷ 255 ∷ 255 ∷ []) ∷ (172 ∷ 32 ∷ 0 ∷ 0 ∷ []) ∷ (191 ∷ 255 ∷ 255 ∷ 255 ∷ [])
    ∷ (192 ∷ 0 ∷ 1 ∷ 0 ∷ []) ∷ (192 ∷ 0 ∷ 1 ∷ 255 ∷ []) ∷ (192 ∷ 0 ∷ 3 ∷ 0 ∷ []) ∷ (192 ∷ 167 ∷ 255 ∷ 255 ∷ []) ∷ (192 ∷ 169 ∷ 0 ∷ 0 ∷ []) ∷ (198 ∷ 17 ∷ 255 ∷ 255 ∷ [])
    ∷ (198 ∷ 20 ∷ 0 ∷ 0 ∷ []) ∷ (198 ∷ 51 ∷ 99 ∷ 255 ∷ []) ∷ (198 ∷ 51 ∷ 101 ∷ 0 ∷ []) ∷ (203 ∷ 0 ∷ 112 ∷ 255 ∷ []) ∷ (203 ∷ 0 ∷ 114 ∷ 0 ∷ []) ∷ (239 ∷ 255 ∷ 255 ∷ 255 ∷ []) ∷ []

v4_inside-not_global : list_all (λ a. not (is_global_v4 a)) v4_inside ≡ true
unfolding is_global_v4
v4_inside-not_global = refl

v4_outside-global : list_all is_global_v4 v4_outside ≡ true
unfolding is_global_v4
v4_outside-global = refl

abbrev zeros : List ℕ → List ℕ
zeros tail = 0 ∷ 0 ∷ 0 ∷ 0 ∷ 0 ∷ 0 ∷ 0 ∷ 0 ∷ tail

abbrev ones : List ℕ
ones = 255 ∷ 255 ∷ 255 ∷ 255 ∷ 255 ∷ 255 ∷ 255 ∷ 255 ∷ []

abbrev v6_inside : List (List ℕ)
v6_inside =
    zeros (zeros []) ∷ zeros (0 ∷ 0 ∷ 0 ∷ 0 ∷ 0 ∷ 0 ∷ 0 ∷ 1 ∷ []) ∷ zeros (0 ∷ 0 ∷ 255 ∷ 255 ∷ 0 ∷ 0 ∷ 0 ∷ 0 ∷ []) ∷ zeros (0 ∷ 0 ∷ 255 ∷ 255 ∷ 255 ∷ 255 ∷ 255 ∷ 255 ∷ [])
    ∷ (32 ∷ 1 ∷ 13 ∷ 184 ∷ 0 ∷ 0 ∷ 0 ∷ 0 ∷ zeros []) ∷ (32 ∷ 1 ∷ 13 ∷ 184 ∷ 255 ∷ 255 ∷ 255 ∷ 255 ∷ ones)
    ∷ (252 ∷ 0 ∷ 0 ∷ 0 ∷ 0 ∷ 0 ∷ 0 ∷ 0 ∷ zeros []) ∷ (253 ∷ 255 ∷ 255 ∷ 255 ∷ 255 ∷ 255 ∷ 255 ∷ 255 ∷ ones)
    ∷ (254 ∷ 128 ∷ 0 ∷ 0 ∷ 0 ∷ 0 ∷ 0 ∷ 0 ∷ zeros []) ∷ (254 ∷ 191 ∷ 255 ∷ 255 ∷ 255 ∷ 255 ∷ 255 ∷ 255 ∷ ones) ∷ []

abbrev v6_outside : List (List ℕ)
v6_outside =
    zeros (0 ∷ 0 ∷ 0 ∷ 0 ∷ 0 ∷ 0 ∷ 0 ∷ 2 ∷ []) ∷ zeros (0 ∷ 0 ∷ 255 ∷ 254 ∷ 255 ∷ 255 ∷ 255 ∷ 255 ∷ []) ∷ zeros (0 ∷ 1 ∷ 0 ∷ 0 ∷ 0 ∷ 0 ∷ 0 ∷ 0 ∷ [])
    ∷ (32 ∷ 1 ∷ 13 ∷ 183 ∷ 255 ∷ 255 ∷ 255 ∷ 255 ∷ ones) ∷ (32 ∷ 1 ∷ 13 ∷ 185 ∷ 0 ∷ 0 ∷ 0 ∷ 0 ∷ zeros [])
    ∷ (251 ∷ 255 ∷ 255 ∷ 255 ∷ 255 ∷ 255 ∷ 255 ∷ 255 ∷ ones) ∷ (254 ∷ 0 ∷ 0 ∷ 0 ∷ 0 ∷ 0 ∷ 0 ∷ 0 ∷ zeros [])
    ∷ (254 ∷ 127 ∷ 255 ∷ 255 ∷ 255 ∷ 255 ∷ 255 ∷ 255 ∷ ones) ∷ (254 ∷ 192 ∷ 0 ∷ 0 ∷ 0 ∷ 0 ∷ 0 ∷ 0 ∷ zeros []) ∷ []

v6_inside-not_global : list_all (λ a. not (is_global_v6 a)) v6_inside ≡ true
unfolding is_global_v6
v6_inside-not_global = refl

v6_outside-global : list_all is_global_v6 v6_outside ≡ true
unfolding is_global_v6
v6_outside-global = refl
