mod DetectionLaws
