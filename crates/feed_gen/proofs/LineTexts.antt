-- Lines and rows that are written in pieces.
use Rattle.std.proofs.Common.{◌≡◌, ℕ, List, ◌++◌, append_assoc}

-- five pieces, and then an LF
pub line-appended : (start a b c d e lf p q r s t : List ℕ) → p ≡ start ++ a → q ≡ p ++ b → r ≡ q ++ c → s ≡ r ++ d → t ≡ s ++ (e ++ lf) → t ≡ start ++ ((a ++ (b ++ (c ++ (d ++ e)))) ++ lf)
line-appended start a b c d e lf p q r s t h1 h2 h3 h4 h5 = rw (h5, h4, h3, h2, h1) (simp append_assoc)

-- ten pieces, and then an LF
pub row-appended : (start a b c d e f g h i j k p1 p2 p3 p4 p5 p6 p7 p8 p9 p10 p11 : List ℕ) → p1 ≡ start ++ a → p2 ≡ p1 ++ b → p3 ≡ p2 ++ c → p4 ≡ p3 ++ d → p5 ≡ p4 ++ e → p6 ≡ p5 ++ f → p7 ≡ p6 ++ g → p8 ≡ p7 ++ h → p9 ≡ p8 ++ i → p10 ≡ p9 ++ j → p11 ≡ p10 ++ k
    → p11 ≡ start ++ ((a ++ (b ++ (c ++ (d ++ (e ++ (f ++ (g ++ (h ++ (i ++ j))))))))) ++ k)
row-appended start a b c d e f g h i j k p1 p2 p3 p4 p5 p6 p7 p8 p9 p10 p11 h1 h2 h3 h4 h5 h6 h7 h8 h9 h10 h11 = rw (h11, h10, h9, h8, h7, h6, h5, h4, h3, h2, h1) (simp append_assoc)
