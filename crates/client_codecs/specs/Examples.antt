-- Worked examples, which the definitions compute.
use Rattle.std.specs.Prelude.{◌≡◌, ℕ, pos, negsuc, true, false, List, [], ◌∷◌, ◌++◌, replicate, Some, None, Ok, Err, refl}
use Rattle.std.specs.Str.{is_utf8, chars}
use lib.Utf8.{encode}
use Rattle.grid_base.specs.declared.refusal.CallRefused.TheVariants.{BadCall}
use Rattle.frame_codec.specs.declared.frames.Frame.{Frame}
use Rattle.message_frames.specs.declared.message.Message.{Message}
use Rattle.client_codecs.specs.Authentications.{authentication_of}
use Rattle.client_codecs.specs.Replies.{authentication_reply}
use Rattle.client_codecs.specs.SpelledAuthentications.{authentication_message}
use Rattle.client_codecs.specs.declared.authentications.Authentication.{Authentication}

abbrev frame : ℕ → List ℕ → Frame
frame flags payload = record { flags = flags; payload = payload }

-- the cluster `dev`
abbrev dev : List ℕ
dev = 100 ∷ 101 ∷ 118 ∷ []

abbrev client_7 : Authentication
client_7 = record { client = Some 7; name = dev }

abbrev nobody : Authentication
nobody = record { client = None; name = dev }

-- the type, the correlation 0, and no partition
abbrev head : List ℕ
head = 0 ∷ 1 ∷ 0 ∷ 0 ∷ replicate 8 0 ++ replicate 4 255

abbrev seven : List ℕ
seven = 0 ∷ replicate 8 0 ++ 7 ∷ replicate 7 0

abbrev message : List ℕ → List ℕ → List Frame → Message
message fields name behind = record { frames = frame 0xC000 (head ++ fields) ∷ frame 0 name ∷ behind }

a_client_says_so : authentication_message (pos 0) (negsuc 0) 1 client_7 [] [] ≡ record { frames = frame 0xC000 (head ++ seven ++ 1 ∷ []) ∷ frame 0x2000 dev ∷ [] }
a_client_says_so = refl

an_authentication_is_read : authentication_of (message (seven ++ 1 ∷ []) dev []) ≡ Ok client_7
unfolding authentication_of is_utf8 chars encode
an_authentication_is_read = refl

a_client_need_have_no_uuid : authentication_of (message (2 ∷ replicate 16 9 ++ 1 ∷ []) dev []) ≡ Ok nobody
unfolding authentication_of is_utf8 chars encode
a_client_need_have_no_uuid = refl

further_bytes_and_frames_are_ignored : authentication_of (message (seven ++ 1 ∷ 2 ∷ 3 ∷ []) dev (frame 0x1000 [] ∷ [])) ≡ Ok client_7
unfolding authentication_of is_utf8 chars encode
further_bytes_and_frames_are_ignored = refl

the_version_must_be_there : authentication_of (message seven dev []) ≡ Err BadCall
unfolding authentication_of is_utf8 chars encode
the_version_must_be_there = refl

a_name_is_a_text : authentication_of (message (seven ++ 1 ∷ []) (255 ∷ []) []) ≡ Err BadCall
unfolding authentication_of is_utf8 chars encode
a_name_is_a_text = refl

member_2_accepts : authentication_reply (pos 5) true 2
    ≡ 41 ∷ 0 ∷ 0 ∷ 0 ∷ 0 ∷ 224 ∷ 1 ∷ 1 ∷ 0 ∷ 0 ∷ 5 ∷ replicate 7 0 ++ 0 ∷ 0 ∷ 0 ∷ replicate 8 0 ++ 3 ∷ replicate 7 0 ++ 15 ∷ 1 ∷ 0 ∷ 0 ∷ []
member_2_accepts = refl

member_2_refuses : authentication_reply (pos 5) false 2
    ≡ 41 ∷ 0 ∷ 0 ∷ 0 ∷ 0 ∷ 224 ∷ 1 ∷ 1 ∷ 0 ∷ 0 ∷ 5 ∷ replicate 7 0 ++ 0 ∷ 1 ∷ 1 ∷ replicate 16 0 ++ 15 ∷ 1 ∷ 0 ∷ 0 ∷ []
member_2_refuses = refl
