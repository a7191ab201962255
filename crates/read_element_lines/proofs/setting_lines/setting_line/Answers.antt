-- Each way out by the law of its setting.
use mathlib.Core.Path.{◌≡◌, refl, ◌∙◌}
use Rattle.read_vertex_lines.proofs.Opened.{row-says}
use Rattle.read_element_lines.specs.InForce.{setting_of}
use Rattle.read_element_lines.proofs.Quiet.{setting-inside, setting-outside, setting-is, type-line, degree-line, group-line, smoothing-line, material-line}
use Rattle.read_element_lines.proofs.setting_lines.setting_line.Goals as goal

pub returns-then-not-allowed : goal.returns-then-not-allowed
returns-then-not-allowed c =
    let a = c.args in
    setting-inside a.text.now a.at a.state a.setting (row-says (setting_of a.setting) a.state.open.kind _ c.rules_for-rules.ensures c.allowed.ensures ∙ c.if-not-allowed.true)

pub returns-in-BodyType : goal.returns-in-BodyType
returns-in-BodyType c =
    let a = c.args in
    let out = setting-outside a.text.now a.at a.state a.setting (row-says (setting_of a.setting) a.state.open.kind _ c.rules_for-rules.ensures c.allowed.ensures ∙ c.if-not-allowed.false) in
    setting-is a.text.now a.at a.state c.in-BodyType.is c.form_step.ensures (type-line a.text.now a.at a.state c.requires.to out _ c.take_type.ensures)

pub returns-in-Degree : goal.returns-in-Degree
returns-in-Degree c =
    let a = c.args in
    let out = setting-outside a.text.now a.at a.state a.setting (row-says (setting_of a.setting) a.state.open.kind _ c.rules_for-rules.ensures c.allowed.ensures ∙ c.if-not-allowed.false) in
    setting-is a.text.now a.at a.state c.in-Degree.is c.form_step-in-Degree.ensures (degree-line a.text.now a.at a.state c.requires.to out _ c.take_degree.ensures)

pub returns-in-Group : goal.returns-in-Group
returns-in-Group c =
    let a = c.args in
    let out = setting-outside a.text.now a.at a.state a.setting (row-says (setting_of a.setting) a.state.open.kind _ c.rules_for-rules.ensures c.allowed.ensures ∙ c.if-not-allowed.false) in
    setting-is a.text.now a.at a.state c.in-Group.is c.names_step.ensures (group-line a.text.now a.at a.state c.requires.to out _ c.take_group.ensures)

pub returns-in-Smoothing : goal.returns-in-Smoothing
returns-in-Smoothing c =
    let a = c.args in
    let out = setting-outside a.text.now a.at a.state a.setting (row-says (setting_of a.setting) a.state.open.kind _ c.rules_for-rules.ensures c.allowed.ensures ∙ c.if-not-allowed.false) in
    setting-is a.text.now a.at a.state c.in-Smoothing.is c.names_step-in-Smoothing.ensures (smoothing-line a.text.now a.at a.state c.requires.to out _ c.take_smoothing.ensures)

pub returns-in-Material : goal.returns-in-Material
returns-in-Material c =
    let a = c.args in
    let out = setting-outside a.text.now a.at a.state a.setting (row-says (setting_of a.setting) a.state.open.kind _ c.rules_for-rules.ensures c.allowed.ensures ∙ c.if-not-allowed.false) in
    setting-is a.text.now a.at a.state c.in-Material.is c.names_step-in-Material.ensures (material-line a.text.now a.at a.state c.requires.to out _ c.take_material.ensures)

pub returns-in-PassedOver : goal.returns-in-PassedOver
returns-in-PassedOver c =
    let a = c.args in
    let out = setting-outside a.text.now a.at a.state a.setting (row-says (setting_of a.setting) a.state.open.kind _ c.rules_for-rules.ensures c.allowed.ensures ∙ c.if-not-allowed.false) in
    setting-is a.text.now a.at a.state c.in-PassedOver.is (let e : c.passed_line.result ≡ c.passed_line.result = refl in e) (c.passed_line.ensures out)
