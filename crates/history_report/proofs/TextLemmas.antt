-- A report can be read off its text, where its operations are known.
use Rattle.std.proofs.Common.{◌≡◌, ℕ, List, [], ◌∷◌, ◌++◌, map, codes, decimal, ◌∙◌, refl, sym, ap, append_assoc}
use Rattle.std.proofs.lemmas.List.{append_cancel_left}
use Rattle.log_entry.specs.Kinds.{IsReplyTo}
use Rattle.log_entry.specs.declared.calls.Op.{Op}
use Rattle.log_entry.specs.declared.calls.Reply.{Reply}
use Rattle.log_entry.specs.declared.calls.Call.{Call}
use Rattle.history_report.specs.Report.{answer_text, call_text, end_text, operation_text, report_text}
use Rattle.history_report.specs.TextFixes.{IsShort, HasShortNumbers, TextFixesCalls}
use Rattle.history_report.proofs.SplitLemmas.{number_line, number_blank}
use Rattle.history_report.proofs.AnswerLemmas.{same_reply}

-- a call by its parts
abbrev call_of : ℕ → ℕ → ℕ → Op → Reply → Call
call_of position seat number op reply = record { position = position; seat = seat; number = number; op = op; reply = reply }

-- what stands behind the number of a call
abbrev from_operation : Op → Reply → List ℕ → List ℕ
from_operation op reply x = operation_text op ++ (codes " = " ++ (answer_text reply ++ (10 ∷ x)))

-- a line, flat
flat : (c : Call) (x : List ℕ) → call_text c ++ x ≡ decimal c.position ++ (32 ∷ (decimal c.seat ++ (32 ∷ (decimal c.number ++ (32 ∷ from_operation c.op c.reply x)))))
unfolding call_text
flat c x = simp append_assoc

call_line : (c d : Call) (x y : List ℕ) → IsReplyTo c.op c.reply → IsReplyTo d.op d.reply → HasShortNumbers c → HasShortNumbers d → c.op ≡ d.op → call_text c ++ x ≡ call_text d ++ y → (c ≡ d) × (x ≡ y)
call_line c d x y kc kd sc sd ops e =
    let whole : decimal c.position ++ (32 ∷ (decimal c.seat ++ (32 ∷ (decimal c.number ++ (32 ∷ from_operation c.op c.reply x))))) ≡ decimal d.position ++ (32 ∷ (decimal d.seat ++ (32 ∷ (decimal d.number ++ (32 ∷ from_operation d.op d.reply y))))) = sym (flat c x) ∙ e ∙ flat d y in
    let p = number_blank c.position d.position _ _ sc.0 sd.0 whole in
    let s = number_blank c.seat d.seat _ _ sc.1 sd.1 p.1 in
    let n = number_blank c.number d.number _ _ sc.2 sd.2 s.1 in
    let left : from_operation d.op c.reply x ≡ from_operation d.op d.reply y = ap (λ (op : Op). from_operation op c.reply x) (sym ops) ∙ n.1 in
    let answers : answer_text c.reply ++ (10 ∷ x) ≡ answer_text d.reply ++ (10 ∷ y) = append_cancel_left (codes " = ") _ _ (append_cancel_left (operation_text d.op) _ _ left) in
    let kind : IsReplyTo d.op c.reply = rw ops at kc in
    let r : (c.reply ≡ d.reply) × (x ≡ y) = same_reply d.op c.reply d.reply kind kd x y sc.3 sd.3 answers in
    let positions : c.position ≡ d.position = p.0 in
    let seats : c.seat ≡ d.seat = s.0 in
    let numbers : c.number ≡ d.number = n.0 in
    let replies : c.reply ≡ d.reply = r.0 in
    let all : call_of c.position c.seat c.number c.op c.reply ≡ call_of d.position d.seat d.number d.op d.reply = cc in
    (all, r.1)

end_line : (p s q t : ℕ) → IsShort p → IsShort s → IsShort q → IsShort t → end_text p s ≡ end_text q t → (p ≡ q) × (s ≡ t)
unfolding end_text
end_line p s q t sp ss sq st e =
    let a : (p ≡ q) × (decimal s ++ (10 ∷ []) ≡ decimal t ++ (10 ∷ [])) = number_blank p q _ _ sp sq (append_cancel_left (codes "end ") _ _ e) in
    let b = number_line s t [] [] ss st a.1 in
    (a.0, b.0)

pub text_fixes_calls : TextFixesCalls
text_fixes_calls [] [] p s q t kc kd sc sd sp ss sq st ops e =
    let end = end_line p s q t sp ss sq st e in
    (refl, end.0, end.1)
text_fixes_calls [] (d ∷ ds) p s q t kc kd sc sd sp ss sq st ops e = absurd (cc)
text_fixes_calls (c ∷ cs) [] p s q t kc kd sc sd sp ss sq st ops e = absurd (cc)
text_fixes_calls (c ∷ cs) (d ∷ ds) p s q t kc kd sc sd sp ss sq st ops e =
    let first : c.op ≡ d.op = cc in
    let rest : map (λ (call : Call). call.op) cs ≡ map (λ (call : Call). call.op) ds = cc in
    let whole : call_text c ++ report_text cs p s ≡ call_text d ++ report_text ds q t = simp append_assoc at e in
    let line : (c ≡ d) × (report_text cs p s ≡ report_text ds q t) = call_line c d _ _ kc.0 kd.0 sc.0 sd.0 first whole in
    let more = text_fixes_calls cs ds p s q t kc.1 kd.1 sc.1 sd.1 sp ss sq st rest line.1 in
    let head : c ≡ d = line.0 in
    let tail : cs ≡ ds = more.0 in
    (cc, more.1, more.2)
