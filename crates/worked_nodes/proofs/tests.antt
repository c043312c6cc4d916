mod OpenedLaws
