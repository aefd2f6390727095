-- Worked examples: the trees of texts, normal forms and compact texts of trees, and texts without a tree.
use Rattle.std.specs.Prelude.{◌≡◌, pos, negsuc, [], ◌∷◌, ◌++◌, codes, encode_utf8}
use Rattle.miniserde_model.specs.Tree.{null, nonneg, neg, num, str, list, members, no_trees, tree, no_members, member}
use Rattle.miniserde_model.specs.Value.{IsJson, HasNoTree}
use Rattle.miniserde_model.specs.Compact.{compact}
use Rattle.miniserde_model.specs.Normal.{norm}

-- texts, each with the tree that it spells
pub record SpelledTexts : Type 0 where
  pub empty_list : IsJson (codes " [ ] ") (list no_trees)
  pub three_numbers : IsJson (codes "[1, 2 ,18446744073709551615]")
      (list (tree (nonneg 1) (tree (nonneg 2) (tree (nonneg 18446744073709551615) no_trees))))
  pub negated_zero : IsJson (codes "-0") (neg (pos 0))
  pub above_largest : IsJson (codes "18446744073709551616") (num (codes "18446744073709551616"))
  pub smallest : IsJson (codes "-9223372036854775808") (neg (negsuc 9223372036854775807))
  pub below_smallest : IsJson (codes "-9223372036854775809") (num (codes "-9223372036854775809"))
  pub fraction : IsJson (codes "1.50") (num (codes "1.50"))
  pub exponent : IsJson (codes "1e400") (num (codes "1e400"))
  -- a high and a low surrogate are one character
  pub surrogate_pair : IsJson (codes "\"\\ud83d\\ude00\"") (str (encode_utf8 0x1F600))
  pub escapes : IsJson (codes "\"\\u0041\\/\"") (str (codes "A/"))
  pub repeated_name : IsJson (codes "{\"a\":1,\"a\":2}")
      (members (member (codes "a") (nonneg 1) (member (codes "a") (nonneg 2) no_members)))

-- trees with their normal forms or compact texts
pub record NormalForms : Type 0 where
  pub last_stays : norm (members (member (codes "a") (nonneg 1) (member (codes "a") (nonneg 2) no_members)))
      ≡ members (member (codes "a") (nonneg 2) no_members)
  pub last_stays_text : compact (norm
      (members (member (codes "a") (nonneg 1) (member (codes "a") (nonneg 2) no_members)))) ≡ codes "{\"a\":2}"
  pub names_rise : norm (members
      (member (codes "b") (nonneg 1) (member (codes "a") (neg (pos 0)) (member (codes "b") null no_members))))
      ≡ members (member (codes "a") (nonneg 0) (member (codes "b") null no_members))
  pub no_negated_zero : norm (neg (pos 0)) ≡ nonneg 0
  -- a tree that is not in normal form has its `-0` in its compact text
  pub list_text : compact (list (tree (nonneg 1) (tree (neg (pos 0)) (tree null no_trees)))) ≡ codes "[1,-0,null]"
  -- a letter, a quote, a backslash, a slash, a line feed, the last control byte below 0x20, and the delete character
  pub escaped_text : compact (str (97 ∷ 34 ∷ 92 ∷ 47 ∷ 10 ∷ 0x1F ∷ 0x7F ∷ [])) ≡ codes "\"a\\\"\\\\/\\n\\u001f" ++ 0x7F ∷ 34 ∷ []
  -- the UTF-8 bytes of the character in `surrogate_pair`
  pub character_bytes : encode_utf8 0x1F600 ≡ 0xF0 ∷ 0x9F ∷ 0x98 ∷ 0x80 ∷ []

-- texts that spell no tree
pub record RefusedTexts : Type 0 where
  pub empty : HasNoTree []
  pub form_feed : HasNoTree (12 ∷ 49 ∷ [])
  pub plus_sign : HasNoTree (codes "+1")
  pub no_whole_part : HasNoTree (codes ".5")
  pub leading_zero : HasNoTree (codes "01")
  pub no_fraction_digits : HasNoTree (codes "1.")
  pub wrong_bracket : HasNoTree (codes "[}")
  pub last_comma : HasNoTree (codes "[1,2,]")
  pub lone_surrogate : HasNoTree (codes "\"\\ud800\"")
  pub control_byte : HasNoTree (34 ∷ 0x1F ∷ 34 ∷ [])
